use Rattle.std.proofs.Common.{◌≡◌, ◌∷◌, replicate, true, false}
use Rattle.requeue_core.proofs.kernels.Kernels.new.Given as goal

abbrev pub invariant-loop-kernel : goal.invariant-loop-kernel
invariant-loop-kernel l = l.lives.items ≡ false ∷ replicate l._kernel true
