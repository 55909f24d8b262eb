use Rattle.laws_named.proofs.Quiet.{quiet_numbers_paid}
use Rattle.laws_named.proofs.quiet_but_for_names_pays_with_steps.Goals as goal

pub returns : goal.returns
returns c = record { law = quiet_numbers_paid }
