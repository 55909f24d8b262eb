use Rattle.std.proofs.Common.{◌-◌, length, map}
use Rattle.eval_queue.specs.Items.{IsPassed}
use Rattle.eval_queue.proofs.kept.next_waiting.Given as goal

abbrev pub invariant-loop-place : goal.invariant-loop-place
invariant-loop-place g l = IsPassed l.place l.kept

abbrev pub decreases-loop-place : goal.decreases-loop-place
decreases-loop-place g l = length l.kept - l.place
