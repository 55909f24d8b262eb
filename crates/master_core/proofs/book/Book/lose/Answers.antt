use Rattle.std.proofs.Common.{rules, ◌≡◌, sym, ap, ◌∙◌, ◌++◌, ◌∷◌, [], refl, true, false}
use Rattle.journal.specs.declared.event.Event.TheVariants as event
use Rattle.journal.specs.Entry.{Nothing}
use Rattle.journal.specs.Core.{may_post}
use Rattle.master_core.specs.Posting.{posting}
use Rattle.journal.specs.Members.{setup_of}
use Rattle.master_core.specs.Book.{opening_with, is_shut}
use Rattle.master_core.proofs.Keeping as k
use Rattle.master_core.proofs.book.Book.lose.Goals as goal

pub lose-requires-clause-open : goal.lose-requires-clause-open
lose-requires-clause-open c =
    let unshut : is_shut c.args.self.now.core c.args.kernel ≡ false = sym c.is_shut.ensures ∙ c.if-is_shut.false in
    k.open_not_shut c.self.inside.state c.args.kernel (ap (λ b. is_shut b.core c.args.kernel) c.self.view_is ∙ unshut)

pub lose-requires-clause-lives : goal.lose-requires-clause-lives
lose-requires-clause-lives c =
    let unshut : is_shut c.args.self.now.core c.args.kernel ≡ false = sym c.is_shut.ensures ∙ c.if-is_shut.false in
    k.lives_yet c.self.inside.state c.args.kernel c.requires.other (ap (λ b. is_shut b.core c.args.kernel) c.self.view_is ∙ unshut)

pub lose-requires-clause-runs : goal.lose-requires-clause-runs
lose-requires-clause-runs c = k.runners c.items_that_run_are_run.ensures.law _ c.self.inside.journal.posted c.self.inside.state c.self.inside.defs c.self.inside.terms c.self.invariant c.args.kernel

pub invariant_of-self-2 : goal.invariant_of-self-2
invariant_of-self-2 c =
    let o = opening_with c.self.inside.kernels c.self.inside.limits c.self.inside.names.value.texts c.self.inside.terms.recovery in
    let p = posting c.args.kernel (event.Lose c.args.cause) Nothing in
    let more : c.add.new.self.posted ≡ c.self.inside.journal.posted ++ p ∷ [] = search rules in
    let unshut : is_shut c.args.self.now.core c.args.kernel ≡ false = sym c.is_shut.ensures ∙ c.if-is_shut.false in
    k.keeps_loss o c.self.inside.journal.posted _ c.self.inside.state _ c.self.inside.defs c.self.inside.terms c.args.kernel c.args.cause c.self.invariant
    (k.lose_may (setup_of o) c.self.inside.state c.args.kernel c.args.cause c.requires.other (ap (λ b. is_shut b.core c.args.kernel) c.self.view_is ∙ unshut) (ap (λ b. may_post b.core) c.self.view_is ∙ c.requires.turn unshut))
    (c.in_ok-lose.ensures.ok (setup_of o) c.args.cause (k.terms_on o c.self.inside.journal.posted c.self.inside.state c.self.inside.defs c.self.inside.terms c.self.invariant refl)) more

pub returns-clause-ok : goal.returns-clause-ok
returns-clause-ok c =
    let o = opening_with c.self.inside.kernels c.self.inside.limits c.self.inside.names.value.texts c.self.inside.terms.recovery in
    let p = posting c.args.kernel (event.Lose c.args.cause) Nothing in
    let more : c.add.new.self.posted ≡ c.self.inside.journal.posted ++ p ∷ [] = search rules in
    let unshut : is_shut c.args.self.now.core c.args.kernel ≡ false = sym c.is_shut.ensures ∙ c.if-is_shut.false in
    k.entered_viewed c.self.view_is
    (k.entered_loss _ _ c.args.kernel c.args.cause
    (k.lose_may (setup_of o) c.self.inside.state c.args.kernel c.args.cause c.requires.other (ap (λ b. is_shut b.core c.args.kernel) c.self.view_is ∙ unshut) (ap (λ b. may_post b.core) c.self.view_is ∙ c.requires.turn unshut))
    (c.in_ok-lose.ensures.ok (setup_of o) c.args.cause (k.terms_on o c.self.inside.journal.posted c.self.inside.state c.self.inside.defs c.self.inside.terms c.self.invariant refl)) more refl refl refl)
