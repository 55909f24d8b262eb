use Rattle.std.proofs.Common.{refl}
use Rattle.eval_queue.proofs.Scan.{still_passed}
use Rattle.eval_queue.proofs.queue.Queue.finish.Goals as goal

pub invariant_of-self : goal.invariant_of-self
invariant_of-self g c = still_passed _ _ _ _ _ refl c.set_status.ensures c.self.invariant
