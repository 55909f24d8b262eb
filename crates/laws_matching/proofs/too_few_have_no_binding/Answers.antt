use Rattle.laws_matching.proofs.Bounds.{too_few}
use Rattle.laws_matching.proofs.too_few_have_no_binding.Goals as goal

pub returns : goal.returns
returns c = record { law = too_few }
