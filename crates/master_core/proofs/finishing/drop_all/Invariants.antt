use Rattle.std.proofs.Common.{◌≡◌, drop}
use Rattle.journal.specs.Places.{each_from}
use Rattle.master_core.specs.Joined.{dropped_all}
use Rattle.master_core.proofs.finishing.drop_all.Given as goal

abbrev pub invariant-loop-id : goal.invariant-loop-id
invariant-loop-id l = each_from 1 (dropped_all (drop l.id-index l.ids)) l.queue ≡ each_from 1 (dropped_all l.ids) l.fn.queue
