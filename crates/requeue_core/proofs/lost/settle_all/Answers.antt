use Rattle.std.proofs.Common.{refl}
use Rattle.requeue_core.proofs.Settling.{walks}
use Rattle.requeue_core.proofs.lost.settle_all.Goals as goal

pub loop-place-preserved : goal.loop-place-preserved
loop-place-preserved g c = walks _ _ _ _ _ _ _ _ _ _ c.loop-place.invariant refl c.settle-left.ensures.items c.settle-left.ensures.left
