use Rattle.laws_cells.proofs.Waits.{waits_agree}
use Rattle.laws_cells.proofs.locks_agree_at_each_wait.Goals as goal

pub returns : goal.returns
returns c = record { law = waits_agree }
