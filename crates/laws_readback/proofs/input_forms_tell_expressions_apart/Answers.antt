use Rattle.laws_readback.proofs.Again.{input_tells_apart}
use Rattle.laws_readback.proofs.input_forms_tell_expressions_apart.Goals as goal

pub returns : goal.returns
returns c = record { law = input_tells_apart }
