use Rattle.laws_journal.proofs.Attempts.{attempts_agree}
use Rattle.laws_journal.proofs.attempts_agree_with_items.Goals as goal

pub returns : goal.returns
returns c = record { law = attempts_agree }
