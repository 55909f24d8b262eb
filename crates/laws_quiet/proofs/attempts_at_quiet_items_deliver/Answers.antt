use Rattle.laws_quiet.proofs.Delivered.{attempt_delivers}
use Rattle.laws_quiet.proofs.attempts_at_quiet_items_deliver.Goals as goal

pub returns : goal.returns
returns c = record { law = attempt_delivers }
