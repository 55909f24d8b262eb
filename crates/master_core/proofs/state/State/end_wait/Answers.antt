use Rattle.std.proofs.Common.{refl, ap, ◌∙◌}
use Rattle.journal.specs.Entry.{Nothing}
use Rattle.journal.specs.declared.event.Event.TheVariants as event
use Rattle.master_core.specs.Posting.{posting}
use Rattle.master_core.specs.Joined.{items_of}
use Rattle.master_core.proofs.Joins as j
use Rattle.master_core.proofs.state.State.end_wait.Goals as goal

pub returns : goal.returns
returns c =
    j.viewed c.self.view_is
    (j.made _ _ (posting 0 event.Resume Nothing) (λ set. refl) (λ set. c.drop_items.ensures set)
    (j.change_none _ 0 _ (λ x. refl)) refl (λ set. j.none_more set 0 event.Resume c.self.inside.finished.items (items_of c.self.inside.queue) (λ m q. refl)) (λ set. refl) (j.or_true c.self.inside.begun) (ap (λ x. x.closed) c.self.view_is ∙ c.requires))
