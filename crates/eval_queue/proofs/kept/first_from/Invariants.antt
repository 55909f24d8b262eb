use Rattle.std.proofs.Common.{◌≡◌, suc, map, drop}
use Rattle.eval_queue.proofs.Scan.{least}
use Rattle.eval_queue.proofs.kept.first_from.Given as goal

abbrev pub invariant-loop-place : goal.invariant-loop-place
invariant-loop-place g l = least (suc l.place) (drop l.place l.kept) l.kernel ≡ least 1 l.kept l.kernel
