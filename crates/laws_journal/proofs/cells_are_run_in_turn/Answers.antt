use Rattle.laws_journal.proofs.Composed.{cells_join}
use Rattle.laws_journal.proofs.cells_are_run_in_turn.Goals as goal

pub returns : goal.returns
returns c = record { law = cells_join }
