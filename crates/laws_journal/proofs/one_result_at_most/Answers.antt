use Rattle.laws_journal.proofs.Counted.{one_result}
use Rattle.laws_journal.proofs.one_result_at_most.Goals as goal

pub returns : goal.returns
returns c = record { law = one_result }
