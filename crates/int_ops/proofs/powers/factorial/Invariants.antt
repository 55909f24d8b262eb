use Rattle.std.proofs.Common.{◌≡◌}
use Rattle.semantics.specs.Numbers.{factorial_of}
use Rattle.int_ops.proofs.powers.factorial.Given as goal

abbrev pub invariant-loop-factor : goal.invariant-loop-factor
invariant-loop-factor l = l.product ≡ factorial_of l.factor
