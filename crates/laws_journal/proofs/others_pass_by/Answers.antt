use Rattle.laws_journal.proofs.Seen.{others_pass, items_stay}
use Rattle.laws_journal.proofs.others_pass_by.Goals as goal

pub returns : goal.returns
returns c = record { law = others_pass; items = items_stay }
