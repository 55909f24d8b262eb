use Rattle.std.proofs.Common.{ap, ◌∙◌}
use Rattle.journal.specs.Core.{no_wait}
use Rattle.master_core.proofs.Keeping as k
use Rattle.master_core.proofs.book.Book.swap_defs.Goals as goal

pub invariant_of-self : goal.invariant_of-self
invariant_of-self c = k.keeps_swap _ _ _ _ _ _ c.self.invariant (ap (λ b. no_wait b.core) c.self.view_is ∙ c.requires)
