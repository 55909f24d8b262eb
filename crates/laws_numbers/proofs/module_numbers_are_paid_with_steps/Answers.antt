use Rattle.laws_numbers.proofs.Paid.{numbers_paid}
use Rattle.laws_numbers.proofs.module_numbers_are_paid_with_steps.Goals as goal

pub returns : goal.returns
returns c = record { law = numbers_paid }
