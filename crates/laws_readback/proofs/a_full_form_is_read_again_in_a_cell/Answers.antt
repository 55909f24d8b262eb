use Rattle.laws_readback.proofs.FullRead.{full_form_is_read_again}
use Rattle.laws_readback.proofs.a_full_form_is_read_again_in_a_cell.Goals as goal

pub returns : goal.returns
returns c = record { law = full_form_is_read_again }
