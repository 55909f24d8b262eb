use Rattle.laws_matching.proofs.Places.{bound_have_nothing}
use Rattle.laws_matching.proofs.another_run_has_no_binding.Goals as goal

pub returns : goal.returns
returns c = record { law = bound_have_nothing }
