use Rattle.laws_journal.proofs.Doers.{doers_agree}
use Rattle.laws_journal.proofs.items_that_run_are_run.Goals as goal

pub returns : goal.returns
returns c = record { law = doers_agree }
