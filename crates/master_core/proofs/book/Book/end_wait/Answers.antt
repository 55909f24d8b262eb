use Rattle.std.proofs.Common.{rules, ◌≡◌, ap, subst, ◌∙◌, ◌++◌, ◌∷◌, [], refl, true, false}
use Rattle.journal.specs.declared.event.Event.TheVariants as event
use Rattle.journal.specs.Entry.{Nothing}
use Rattle.journal.specs.Places.{is_some}
use Rattle.journal.specs.Core.{attempt_of, condition_holds}
use Rattle.journal.specs.Members.{setup_of}
use Rattle.master_core.specs.Posting.{posting}
use Rattle.master_core.specs.Waits.{IsUnmet}
use Rattle.master_core.specs.Book.{opening_with}
use Rattle.master_core.proofs.Keeping as k
use Rattle.master_core.proofs.book.Book.end_wait.Goals as goal

pub invariant_of-self-2 : goal.invariant_of-self-2
invariant_of-self-2 c =
    let set = setup_of (opening_with c.self.inside.kernels c.self.inside.limits c.self.inside.names.value.texts c.self.inside.terms.recovery) in
    let p = posting 0 event.Resume Nothing in
    let more : c.add.new.self.posted ≡ c.self.inside.journal.posted ++ p ∷ [] = search rules in
    let waits : is_some c.self.inside.state.wait ≡ true = ap (λ b. is_some b.core.wait) c.self.view_is ∙ c.requires.waits in
    let holds : condition_holds set.names c.self.inside.state ≡ true = c.in_default.ensures set.names c.self.invariant.named in
    k.keeps_on _ c.self.inside.journal.posted _ c.self.inside.state _ c.self.inside.defs _ p c.self.invariant
    (k.resume_may set c.self.inside.state (c.self.invariant.unclosed waits) holds (ap (λ b. attempt_of b.core 0) c.self.view_is ∙ c.requires.idle))
    c.end_wait.ensures more refl (λ w. waits) refl

pub returns-in-Some-clause-no : goal.returns-in-Some-clause-no
returns-in-Some-clause-no c =
    let set = setup_of (opening_with c.self.inside.kernels c.self.inside.limits c.self.inside.names.value.texts c.self.inside.terms.recovery) in
    subst (λ b. (condition_holds (setup_of b.opening).names b.core ≡ false) × IsUnmet b.core c.in-Some.unmet) c.self.view_is (c.in-Some.ensures set.names c.self.invariant.named)
