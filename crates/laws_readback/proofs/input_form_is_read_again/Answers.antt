use Rattle.laws_readback.proofs.Again.{input_is_read_again}
use Rattle.laws_readback.proofs.input_form_is_read_again.Goals as goal

pub returns : goal.returns
returns c = record { law = input_is_read_again }
