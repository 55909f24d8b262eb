use Rattle.std.proofs.Common.{◌∙◌, ap, refl, map}
use Rattle.eval_queue.proofs.Scan.{still_passed}
use Rattle.eval_queue.proofs.queue.Queue.drop_item.Goals as goal

pub next_waiting-self-inside-requires : goal.next_waiting-self-inside-requires
next_waiting-self-inside-requires g c =
    still_passed _ _ _ _ _ refl (c.as_slice.ensures.value ∙ c.set_status.ensures) c.self.invariant
