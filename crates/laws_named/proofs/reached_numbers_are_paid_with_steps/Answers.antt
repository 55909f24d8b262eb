use Rattle.laws_named.proofs.Reached.{reached_numbers_paid}
use Rattle.laws_named.proofs.reached_numbers_are_paid_with_steps.Goals as goal

pub returns : goal.returns
returns c = record { law = reached_numbers_paid }
