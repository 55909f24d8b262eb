use Rattle.semantics.specs.Program.{Done}
use Rattle.machine_rules.proofs.Ending.{walk_asks, walk_halts}
use Rattle.machine_rules.proofs.rule_row.go_all.Goals as goal

pub returns-in-Ok-Ask : goal.returns-in-Ok-Ask
returns-in-Ok-Ask c = walk_asks Done (rw c.in-Ok-Ask.field-0-is at c.in-Ok-Ask.ensures.goes)

pub returns-in-Err : goal.returns-in-Err
returns-in-Err c = walk_halts Done c.in-Err.ensures.goes
