use Rattle.laws_matching.proofs.Bounds.{too_many}
use Rattle.laws_matching.proofs.too_many_have_no_binding.Goals as goal

pub returns : goal.returns
returns c = record { law = too_many }
