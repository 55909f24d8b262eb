use Rattle.laws_journal.proofs.Insides.{attempts_ordered}
use Rattle.laws_journal.proofs.attempts_are_ordered.Goals as goal

pub returns : goal.returns
returns c = record { law = attempts_ordered }
