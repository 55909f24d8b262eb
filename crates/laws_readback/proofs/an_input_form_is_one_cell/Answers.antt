use Rattle.laws_readback.proofs.OneCell.{input_is_one_cell}
use Rattle.laws_readback.proofs.an_input_form_is_one_cell.Goals as goal

pub returns : goal.returns
returns c = record { law = input_is_one_cell }
