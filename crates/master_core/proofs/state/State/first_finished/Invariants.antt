use Rattle.std.proofs.Common.{◌≡◌, [], drop}
use Rattle.journal.specs.Core.{first_finished}
use Rattle.master_core.proofs.state.State.first_finished.Given as goal

abbrev pub invariant-loop-id : goal.invariant-loop-id
invariant-loop-id l = (l.values ≡ []) × (first_finished (drop l.id-index l.finished) l.self l.ids ≡ first_finished l.finished l.self l.ids)
