use Rattle.laws_journal.proofs.Unique.{one_journal}
use Rattle.laws_journal.proofs.one_journal_without_kernels.Goals as goal

pub returns : goal.returns
returns c = record { law = λ set plan. one_journal plan set }
