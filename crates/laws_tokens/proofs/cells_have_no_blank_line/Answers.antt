use Rattle.laws_tokens.proofs.OneCell.{cells_full}
use Rattle.laws_tokens.proofs.cells_have_no_blank_line.Goals as goal

pub returns : goal.returns
returns c = record { law = cells_full }
