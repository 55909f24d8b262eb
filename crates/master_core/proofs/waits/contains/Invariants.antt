use Rattle.std.proofs.Common.{◌≡◌, drop}
use Rattle.journal.specs.Places.{member}
use Rattle.master_core.proofs.waits.contains.Given as goal

abbrev pub invariant-loop-other : goal.invariant-loop-other
invariant-loop-other l = member l.id (drop l.other-index l.ids) ≡ member l.id l.ids
