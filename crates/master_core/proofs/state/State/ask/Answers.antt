use Rattle.std.proofs.Common.{refl, ap, ◌∙◌}
use Rattle.journal.specs.Entry.{Nothing}
use Rattle.journal.specs.declared.event.Event.TheVariants as event
use Rattle.master_core.proofs.Joins as j
use Rattle.master_core.proofs.state.State.ask.Goals as goal

pub returns : goal.returns
returns c = λ n.
    j.viewed c.self.view_is
    (j.plain c.args.kernel (event.Ask n) Nothing _ _ (λ set. refl) (λ set m q. refl) (λ set m q. refl) (λ x. refl) (λ set. refl) refl refl refl refl (λ set. refl) c.has_begun-self-inside.ensures
    (ap (λ x. x.closed) c.self.view_is ∙ c.requires))
