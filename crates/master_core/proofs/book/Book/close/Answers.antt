use Rattle.std.proofs.Common.{ap, ◌∙◌, ◌++◌, ◌∷◌, []}
use Rattle.journal.specs.declared.event.Event.TheVariants as event
use Rattle.journal.specs.Entry.{Nothing}
use Rattle.journal.specs.Core.{no_wait}
use Rattle.master_core.specs.Posting.{posting}
use Rattle.master_core.proofs.Keeping as k
use Rattle.master_core.proofs.book.Book.close.Goals as goal

pub invariant_of-self-2 : goal.invariant_of-self-2
invariant_of-self-2 c =
    k.keeps_close _ c.self.inside.journal.posted _ c.self.inside.state _ _ _ c.self.invariant (ap (λ b. b.core.closed) c.self.view_is ∙ c.requires.open) (ap (λ b. no_wait b.core) c.self.view_is ∙ c.requires.no_wait) c.close.ensures
    (c.add.ensures ∙ ap (λ xs. xs ++ posting 0 event.Close Nothing ∷ []) c.in_ok-reserve.ensures.posted)
