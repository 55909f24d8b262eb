use Rattle.std.proofs.Common.{rules, ◌≡◌, sym, ap, ◌∙◌, ◌++◌, ◌∷◌, [], refl, true, false}
use Rattle.std.specs.Prelude.{◌||◌, ◌==◌}
use Rattle.journal.specs.declared.event.Event.TheVariants as event
use Rattle.journal.specs.Entry.{Nothing}
use Rattle.journal.specs.Core.{may_post, in_evaluation}
use Rattle.master_core.specs.Posting.{posting}
use Rattle.journal.specs.Members.{setup_of}
use Rattle.master_core.specs.Book.{opening_with, is_shut}
use Rattle.master_core.proofs.Keeping as k
use Rattle.master_core.proofs.book.Book.print.Goals as goal

pub invariant_of-self-2 : goal.invariant_of-self-2
invariant_of-self-2 c =
    let set = setup_of (opening_with c.self.inside.kernels c.self.inside.limits c.self.inside.names.value.texts c.self.inside.terms.recovery) in
    let p = posting c.args.kernel (event.Print c.args.text) Nothing in
    let more : c.add.new.self.posted ≡ c.self.inside.journal.posted ++ p ∷ [] = search rules in
    let unshut : is_shut c.args.self.now.core c.args.kernel ≡ false = sym c.is_shut.ensures ∙ c.if-is_shut.false in
    k.keeps_on _ c.self.inside.journal.posted _ c.self.inside.state _ c.self.inside.defs _ p c.self.invariant
    (k.print_may set c.self.inside.state c.args.kernel c.args.text (ap (λ b. is_shut b.core c.args.kernel) c.self.view_is ∙ unshut) (ap (λ b. (c.args.kernel == 0) || may_post b.core) c.self.view_is ∙ c.requires.turn unshut)
    (ap (λ b. in_evaluation b.core c.args.kernel) c.self.view_is ∙ c.requires.inside unshut))
    c.in_ok-print.ensures.ok more refl (λ w. w) refl
