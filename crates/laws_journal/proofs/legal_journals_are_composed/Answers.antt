use Rattle.laws_journal.proofs.Composed.{legal_composed, legal_started}
use Rattle.laws_journal.proofs.legal_journals_are_composed.Goals as goal

pub returns : goal.returns
returns c = record { law = legal_composed; started = legal_started }
