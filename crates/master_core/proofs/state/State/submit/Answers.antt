use Rattle.std.proofs.Common.{refl, sym, ap, ◌∙◌, suc, length}
use Rattle.journal.specs.Entry.{Given}
use Rattle.journal.specs.declared.event.Event.TheVariants as event
use Rattle.master_core.specs.Posting.{posting}
use Rattle.master_core.specs.Joined.{items_of}
use Rattle.master_core.proofs.Counting as n
use Rattle.master_core.proofs.Joins as j
use Rattle.master_core.proofs.state.State.submit.Goals as goal

pub returns-clause-ok : goal.returns-clause-ok
returns-clause-ok c = λ id.
    j.viewed c.self.view_is
    (j.made _ _ (posting 0 (event.Submit id) (Given c.args.item c.args.bundle)) (λ set. refl) (λ set. ap items_of c.in_ok-id.ensures.ok ∙ j.one_item c.self.inside.queue _)
    (j.change_none _ 0 _ (λ x. refl)) refl (λ set. j.none_more set 0 (event.Submit id) c.self.inside.finished.items (items_of c.self.inside.queue) (λ m q. refl)) (λ set. refl) (j.or_true c.self.inside.begun) (ap (λ x. x.closed) c.self.view_is ∙ c.requires))

pub returns-clause-id : goal.returns-clause-id
returns-clause-id c = c.in_ok-id.ensures.id ∙ ap suc (sym (n.items_len c.self.inside.queue)) ∙ ap (λ x. suc (length x.items)) c.self.view_is
