use Rattle.laws_journal.proofs.Seen.{items_agree}
use Rattle.laws_journal.proofs.items_agree_with_views.Goals as goal

pub returns : goal.returns
returns c = record { law = items_agree }
