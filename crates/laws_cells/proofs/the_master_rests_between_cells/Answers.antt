use Rattle.laws_cells.proofs.Waits.{cells_keep_rest, runs_rest}
use Rattle.laws_cells.proofs.the_master_rests_between_cells.Goals as goal

pub returns : goal.returns
returns c = record { cells = cells_keep_rest; law = runs_rest }
