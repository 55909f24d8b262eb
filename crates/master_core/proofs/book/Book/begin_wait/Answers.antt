use Rattle.std.proofs.Common.{rules, ◌≡◌, ap, ◌∙◌, ◌++◌, ◌∷◌, []}
use Rattle.journal.specs.declared.event.Event.TheVariants as event
use Rattle.journal.specs.Entry.{Lent}
use Rattle.journal.specs.Core.{no_wait, may_yield}
use Rattle.master_core.specs.Posting.{posting}
use Rattle.master_core.proofs.Keeping as k
use Rattle.master_core.proofs.book.Book.begin_wait.Goals as goal

pub invariant_of-self-2 : goal.invariant_of-self-2
invariant_of-self-2 c =
    let more : c.add.new.self.posted ≡ c.self.inside.journal.posted ++ posting 0 (event.Yield c.args.wait) (Lent c.self.inside.defs) ∷ [] = search rules in
    k.keeps_yield _ c.self.inside.journal.posted _ c.self.inside.state _ c.self.inside.defs _ c.args.wait c.self.invariant (ap (λ b. b.core.closed) c.self.view_is ∙ c.requires.open) (ap (λ b. no_wait b.core) c.self.view_is ∙ c.requires.no_wait)
    (ap (λ b. may_yield b.core c.args.wait) c.self.view_is ∙ c.requires.sound) c.begin_wait.ensures more
