use Rattle.std.proofs.Common.{◌≡◌, drop}
use Rattle.semantics.specs.Names.{Names}
use Rattle.semantics.specs.declared.builtin.Builtin.{Builtin}
use Rattle.journal.specs.Core.{any_success}
use Rattle.master_core.proofs.state.State.any_success.Given as goal

abbrev pub invariant-loop-id : goal.invariant-loop-id
invariant-loop-id l = (names : Names) → names.place Builtin.Failed ≡ l.failed.base → any_success names l.self (drop l.id-index l.ids) ≡ any_success names l.self l.ids
