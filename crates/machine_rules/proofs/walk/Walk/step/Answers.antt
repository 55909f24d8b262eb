use Rattle.machine_rules.proofs.Walking.{walks_after, passes_next}
use Rattle.machine_rules.proofs.walk.Walk.step.Goals as goal

pub returns-in-Ok-None-clause-goes : goal.returns-in-Ok-None-clause-goes
returns-in-Ok-None-clause-goes c = walks_after (passes_next (rw c.in-Ok-None.field-0-is at c.in-Ok-None.ensures.goes)) c.go_over.ensures.goes
