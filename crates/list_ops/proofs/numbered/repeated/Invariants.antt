use Rattle.std.proofs.Common.{◌≡◌, replicate}
use Rattle.list_ops.proofs.numbered.repeated.Given as goal

abbrev pub invariant-loop-k : goal.invariant-loop-k
invariant-loop-k l = l.made ≡ replicate l._k l.e
