use Rattle.laws_quiet.proofs.Quieted.{quiet_anywhere}
use Rattle.laws_quiet.proofs.quiet_applications_are_the_same_anywhere.Goals as goal

pub returns : goal.returns
returns c = record { law = quiet_anywhere }
