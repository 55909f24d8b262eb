use Rattle.std.proofs.Common.{◌≡◌, [], drop}
use Rattle.semantics.specs.Names.{Names}
use Rattle.semantics.specs.declared.builtin.Builtin.{Builtin}
use Rattle.journal.specs.Core.{first_success}
use Rattle.master_core.proofs.state.State.first_success.Given as goal

abbrev pub invariant-loop-id : goal.invariant-loop-id
invariant-loop-id l = (l.values ≡ []) × ((names : Names) → names.place Builtin.Failed ≡ l.failed.base → first_success names (drop l.id-index l.finished) l.self l.ids ≡ first_success names l.finished l.self l.ids)
