use Rattle.laws_tokens.proofs.OneCell.{full_cell}
use Rattle.laws_tokens.proofs.a_text_without_a_blank_line_is_one_cell.Goals as goal

pub returns : goal.returns
returns c = record { law = full_cell }
