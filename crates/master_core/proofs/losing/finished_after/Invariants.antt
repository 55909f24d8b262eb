use Rattle.std.proofs.Common.{◌≡◌, ◌++◌, drop, suc}
use Rattle.master_core.specs.Losing.{ids_lost}
use Rattle.master_core.proofs.losing.finished_after.Given as goal

abbrev pub invariant-loop-place : goal.invariant-loop-place
invariant-loop-place l = l.ids.items ++ ids_lost l.recovery l.k (suc l.place) (drop l.place l.queue) ≡ l.finished ++ ids_lost l.recovery l.k 1 l.queue
