use Rattle.std.proofs.Common.{refl, ap, ◌∙◌}
use Rattle.journal.specs.Entry.{Lent}
use Rattle.journal.specs.declared.event.Event.TheVariants as event
use Rattle.master_core.proofs.Joins as j
use Rattle.master_core.proofs.state.State.begin_wait.Goals as goal

pub returns : goal.returns
returns c =
    j.viewed c.self.view_is
    (j.plain 0 (event.Yield c.args.wait) (Lent c.args.defs.now) _ _ (λ set. refl) (λ set m q. refl) (λ set m q. refl) (λ x. refl) (λ set. c.of.ensures) refl refl refl refl (λ set. refl) (j.or_true c.self.inside.begun)
    (ap (λ x. x.closed) c.self.view_is ∙ c.requires.open))
