use Rattle.std.proofs.Common.{rules, ◌≡◌, sym, ap, ◌∙◌, ◌++◌, ◌∷◌, [], refl, true, false, Some}
use Rattle.journal.specs.declared.event.Event.TheVariants as event
use Rattle.journal.specs.Entry.{Nothing}
use Rattle.journal.specs.Core.{attempt_of}
use Rattle.journal.specs.Members.{setup_of}
use Rattle.master_core.specs.Posting.{posting}
use Rattle.master_core.specs.Book.{opening_with, is_shut, first_take}
use Rattle.master_core.proofs.Keeping as k
use Rattle.master_core.proofs.book.Book.take.Goals as goal

pub taken-requires : goal.taken-requires
taken-requires c =
    let set = setup_of (opening_with c.self.inside.kernels c.self.inside.limits c.self.inside.names.value.texts c.self.inside.terms.recovery) in
    let first : first_take set c.self.inside.state c.args.kernel ≡ Some c.in-Some.id = search rules in
    k.first_waits c.self.inside.state c.args.kernel c.in-Some.id (k.first_is set c.self.inside.state c.args.kernel c.in-Some.id first)

pub take-requires-clause-waits : goal.take-requires-clause-waits
take-requires-clause-waits c =
    let set = setup_of (opening_with c.self.inside.kernels c.self.inside.limits c.self.inside.names.value.texts c.self.inside.terms.recovery) in
    let first : first_take set c.self.inside.state c.args.kernel ≡ Some c.in-Some.id = search rules in
    k.first_waits c.self.inside.state c.args.kernel c.in-Some.id (k.first_is set c.self.inside.state c.args.kernel c.in-Some.id first)

pub invariant_of-self-3 : goal.invariant_of-self-3
invariant_of-self-3 c =
    let set = setup_of (opening_with c.self.inside.kernels c.self.inside.limits c.self.inside.names.value.texts c.self.inside.terms.recovery) in
    let first : first_take set c.self.inside.state c.args.kernel ≡ Some c.in-Some.id = search rules in
    let p = posting c.args.kernel (event.Take c.in-Some.id) Nothing in
    let more : c.add.new.self.posted ≡ c.self.inside.journal.posted ++ p ∷ [] = search rules in
    let unshut : is_shut c.args.self.now.core c.args.kernel ≡ false = sym c.is_shut.ensures ∙ c.if-is_shut.false in
    k.keeps_on _ c.self.inside.journal.posted _ c.self.inside.state _ c.self.inside.defs _ p c.self.invariant
    (k.take_may set c.self.inside.state c.args.kernel c.in-Some.id (ap (λ b. is_shut b.core c.args.kernel) c.self.view_is ∙ unshut) (ap (λ b. attempt_of b.core c.args.kernel) c.self.view_is ∙ c.requires.idle) first)
    c.take.ensures more refl (λ w. w) refl
