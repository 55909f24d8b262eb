use Rattle.std.proofs.Common.{refl}
use Rattle.journal.specs.Entry.{Nothing}
use Rattle.journal.specs.declared.event.Event.TheVariants as event
use Rattle.master_core.proofs.Joins as j
use Rattle.master_core.proofs.state.State.close.Goals as goal

pub returns : goal.returns
returns c = j.viewed c.self.view_is (j.plain 0 event.Close Nothing _ _ (λ set. refl) (λ set m q. refl) (λ set m q. refl) (λ x. refl) (λ set. refl) refl refl refl refl (λ set. refl) (j.or_true c.self.inside.begun) refl)
