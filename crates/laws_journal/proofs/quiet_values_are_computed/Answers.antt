use Rattle.laws_journal.proofs.Quieted.{quiet_computed}
use Rattle.laws_journal.proofs.quiet_values_are_computed.Goals as goal

pub returns : goal.returns
returns c = record { law = quiet_computed }
