use Rattle.laws_matching.proofs.Places.{others_have_nothing}
use Rattle.laws_matching.proofs.an_unfit_element_has_no_binding.Goals as goal

pub returns : goal.returns
returns c = record { law = others_have_nothing }
