use Rattle.laws_matching.proofs.Heads.{another_shape_is_ordinary}
use Rattle.laws_matching.proofs.another_shape_is_ordinary.Goals as goal

pub returns : goal.returns
returns c = record { law = another_shape_is_ordinary }
