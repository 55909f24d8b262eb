use Rattle.laws_journal.proofs.Replayed.{whole_good}
use Rattle.laws_journal.proofs.legal_journals_replay.Goals as goal

pub returns : goal.returns
returns c = record { law = λ set cells journal ps e. whole_good set journal cells ps e }
