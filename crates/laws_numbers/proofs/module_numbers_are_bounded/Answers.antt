use Rattle.laws_numbers.proofs.Paying.{numbers_bounded}
use Rattle.laws_numbers.proofs.module_numbers_are_bounded.Goals as goal

pub returns : goal.returns
returns c = record { law = numbers_bounded }
