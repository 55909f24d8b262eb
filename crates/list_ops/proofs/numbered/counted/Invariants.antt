use Rattle.std.proofs.Common.{◌≡◌}
use Rattle.std.specs.Prelude.{pos}
use Rattle.semantics.specs.Lists.{count_up}
use Rattle.list_ops.proofs.numbered.counted.Given as goal

abbrev pub invariant-loop-k : goal.invariant-loop-k
invariant-loop-k l = l.made ≡ count_up (pos 1) (pos 1) l.k
