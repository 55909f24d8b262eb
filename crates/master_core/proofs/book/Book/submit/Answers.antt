use Rattle.std.proofs.Common.{rules, ◌≡◌, ap, ◌∙◌, ◌++◌, ◌∷◌, [], refl, length, suc}
use Rattle.journal.specs.declared.event.Event.TheVariants as event
use Rattle.journal.specs.Entry.{Given}
use Rattle.journal.specs.Core.{no_wait, may_submit}
use Rattle.journal.specs.Members.{setup_of}
use Rattle.master_core.specs.Posting.{posting}
use Rattle.master_core.specs.Book.{opening_with}
use Rattle.master_core.proofs.Keeping as k
use Rattle.master_core.proofs.book.Book.submit.Goals as goal

pub invariant_of-self-2 : goal.invariant_of-self-2
invariant_of-self-2 c =
    let set = setup_of (opening_with c.self.inside.kernels c.self.inside.limits c.self.inside.names.value.texts c.self.inside.terms.recovery) in
    let id = c.in_ok-id.id in
    let more : c.add.new.self.posted ≡ c.self.inside.journal.posted ++ posting 0 (event.Submit id) (Given c.args.item c.args.bundle) ∷ [] = search rules in
    k.keeps_on _ c.self.inside.journal.posted _ c.self.inside.state _ c.self.inside.defs _ (posting 0 (event.Submit id) (Given c.args.item c.args.bundle)) c.self.invariant
    (k.submit_may set c.self.inside.state id c.args.item c.args.bundle (ap (λ b. b.core.closed) c.self.view_is ∙ c.requires.open) (ap (λ b. no_wait b.core) c.self.view_is ∙ c.requires.no_wait) c.in_ok-id.ensures.id
    (ap (λ b. may_submit b.core (Given c.args.item c.args.bundle)) c.self.view_is ∙ c.requires.lives))
    (c.in_ok-id.ensures.ok id) more refl (λ w. w) refl

pub returns-clause-ok : goal.returns-clause-ok
returns-clause-ok c =
    let set = setup_of (opening_with c.self.inside.kernels c.self.inside.limits c.self.inside.names.value.texts c.self.inside.terms.recovery) in
    let id = c.in_ok-id.id in
    let more : c.add.new.self.posted ≡ c.self.inside.journal.posted ++ posting 0 (event.Submit id) (Given c.args.item c.args.bundle) ∷ [] = search rules in
    k.entered_viewed c.self.view_is
    (k.entered _ _ (posting 0 (event.Submit id) (Given c.args.item c.args.bundle))
    (k.submit_may set c.self.inside.state id c.args.item c.args.bundle (ap (λ b. b.core.closed) c.self.view_is ∙ c.requires.open) (ap (λ b. no_wait b.core) c.self.view_is ∙ c.requires.no_wait) c.in_ok-id.ensures.id
    (ap (λ b. may_submit b.core (Given c.args.item c.args.bundle)) c.self.view_is ∙ c.requires.lives))
    (c.in_ok-id.ensures.ok id) more refl refl refl)
