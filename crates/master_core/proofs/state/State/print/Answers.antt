use Rattle.std.proofs.Common.{refl, ap, ◌∙◌}
use Rattle.journal.specs.Entry.{Nothing}
use Rattle.journal.specs.declared.event.Event.TheVariants as event
use Rattle.master_core.proofs.Joins as j
use Rattle.master_core.proofs.state.State.print.Goals as goal

pub returns-clause-ok : goal.returns-clause-ok
returns-clause-ok c =
    j.viewed c.self.view_is
    (j.plain c.args.kernel (event.Print c.args.line) Nothing _ _ (λ set. refl) (λ set m q. refl) (λ set m q. refl) (λ x. refl) (λ set. refl) refl refl refl refl (λ set. c.in_ok-push.ensures.ok) c.has_begun-self-inside.ensures
    (ap (λ x. x.closed) c.self.view_is ∙ c.requires))
