use Rattle.laws_cells.proofs.Cells.{cells_end_outside}
use Rattle.laws_cells.proofs.cells_end_outside_sections.Goals as goal

pub returns : goal.returns
returns c = record { law = cells_end_outside }
