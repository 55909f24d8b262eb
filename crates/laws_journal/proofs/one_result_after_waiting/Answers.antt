use Rattle.laws_journal.proofs.Counted.{all_have_results}
use Rattle.laws_journal.proofs.one_result_after_waiting.Goals as goal

pub returns : goal.returns
returns c = record { law = all_have_results }
