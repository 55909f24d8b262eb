use Rattle.laws_journal.proofs.Emptied.{used_up_stays}
use Rattle.laws_journal.proofs.used_up_journals_stay_so.Goals as goal

pub returns : goal.returns
returns c = record { law = used_up_stays }
