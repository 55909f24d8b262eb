use Rattle.laws_numbers.proofs.Paying.{steps_bounded}
use Rattle.laws_numbers.proofs.steps_are_bounded.Goals as goal

pub returns : goal.returns
returns c = record { law = steps_bounded }
