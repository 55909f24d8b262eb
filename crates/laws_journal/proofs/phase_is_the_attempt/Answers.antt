use Rattle.laws_journal.proofs.StandIn.{each_phase_is_attempt}
use Rattle.laws_journal.proofs.phase_is_the_attempt.Goals as goal

pub returns : goal.returns
returns c = record { law = each_phase_is_attempt }
