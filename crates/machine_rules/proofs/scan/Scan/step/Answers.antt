use Rattle.machine_rules.proofs.Going.{goes_after}
use Rattle.machine_rules.proofs.Scanning.{goes_next}
use Rattle.machine_rules.proofs.scan.Scan.step.Goals as goal

pub returns-in-Ok-None : goal.returns-in-Ok-None
returns-in-Ok-None c = goes_after (goes_next (rw c.in-Ok-None.field-0-is at c.in-Ok-None.ensures)) c.go_over.ensures
