use Rattle.std.proofs.Common.{◌≡◌, drop}
use Rattle.journal.specs.Core.{all_done}
use Rattle.master_core.specs.Waits.{first_undone}
use Rattle.master_core.proofs.state.State.first_undone.Given as goal

abbrev pub invariant-loop-id : goal.invariant-loop-id
invariant-loop-id l = (first_undone l.self (drop l.id-index l.ids) ≡ first_undone l.self l.ids) × (all_done l.self (drop l.id-index l.ids) ≡ all_done l.self l.ids)
