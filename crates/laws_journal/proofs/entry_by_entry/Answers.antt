use Rattle.laws_journal.proofs.Steps.{steps_core, steps_view}
use Rattle.laws_journal.proofs.entry_by_entry.Goals as goal

pub returns : goal.returns
returns c = record { law = (steps_core, steps_view) }
