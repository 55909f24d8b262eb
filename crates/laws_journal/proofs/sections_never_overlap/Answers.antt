use Rattle.laws_journal.proofs.Apart.{sections_apart}
use Rattle.laws_journal.proofs.sections_never_overlap.Goals as goal

pub returns : goal.returns
returns c = record { law = sections_apart }
