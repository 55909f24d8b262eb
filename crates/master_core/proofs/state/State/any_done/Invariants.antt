use Rattle.std.proofs.Common.{◌≡◌, drop}
use Rattle.journal.specs.Core.{any_done}
use Rattle.master_core.proofs.state.State.any_done.Given as goal

abbrev pub invariant-loop-id : goal.invariant-loop-id
invariant-loop-id l = any_done l.self (drop l.id-index l.ids) ≡ any_done l.self l.ids
