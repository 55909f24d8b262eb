use Rattle.eval_queue.proofs.Places.{set_at}
use Rattle.eval_queue.proofs.kept.set_status.Goals as goal

pub returns : goal.returns
returns g c = set_at _ _ _ _ c.requires c.index_mut.ensures.value
