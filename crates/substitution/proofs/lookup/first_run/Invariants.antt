use Rattle.std.proofs.Common.{◌≡◌, drop}
use Rattle.expr_tree.specs.Substitution.{value_of}
use Rattle.substitution.proofs.lookup.first_run.Given as goal

abbrev pub invariant-loop-bound : goal.invariant-loop-bound
invariant-loop-bound l = value_of (drop l.bound-index l.bindings) l.symbol ≡ value_of l.bindings l.symbol
