use Rattle.builtin_names.specs.Named.{names_in}
use Rattle.machine_rules.proofs.Trying.{definitions_tell}
use Rattle.machine_rules.proofs.Scanning.{trial_asks, trial_decides, trial_ends, trial_fails, trial_notes}
use Rattle.machine_rules.proofs.scan.Scan.pursue.Goals as goal

pub returns-in-Ok-Guard-clause-goes : goal.returns-in-Ok-Guard-clause-goes
returns-in-Ok-Guard-clause-goes c =
    trial_asks (names_in c.args.scene.now.names.now) c.args.defs.now c.args.scene.now.limits c.args.self.now.rules c.args.self.now.tally c.args.subject c.args.self.now.rest c.args.attempt c.step.new.self c.args.answer
    (rw c.in-Ok-Guard.field-0-is at (c.in-Ok-Guard.ensures.moved c.args.defs.now (definitions_tell c.args.scene.now.names.now c.args.defs.now)))

pub returns-in-Ok-Some-clause-goes : goal.returns-in-Ok-Some-clause-goes
returns-in-Ok-Some-clause-goes c =
    trial_decides (names_in c.args.scene.now.names.now) c.args.defs.now c.args.scene.now.limits c.args.self.now.rules c.args.self.now.tally c.args.subject c.args.self.now.rest c.args.attempt c.step.new.self c.args.answer
    (rw c.in-Ok-Found.field-0-is at (c.in-Ok-Found.ensures.moved c.args.defs.now (definitions_tell c.args.scene.now.names.now c.args.defs.now))) (rw c.in-Ok-Some.field-0-is at c.in-Ok-Some.ensures)

pub returns-in-Ok-None-clause-goes : goal.returns-in-Ok-None-clause-goes
returns-in-Ok-None-clause-goes c =
    trial_notes (names_in c.args.scene.now.names.now) c.args.defs.now c.args.scene.now.limits c.args.self.now.rules c.args.self.now.tally c.args.subject c.args.self.now.rest c.args.attempt c.step.new.self c.args.answer
    (rw c.in-Ok-Found.field-0-is at (c.in-Ok-Found.ensures.moved c.args.defs.now (definitions_tell c.args.scene.now.names.now c.args.defs.now))) (rw c.in-Ok-None.field-0-is at c.in-Ok-None.ensures)

pub returns-in-Ok-Fails-clause-goes : goal.returns-in-Ok-Fails-clause-goes
returns-in-Ok-Fails-clause-goes c =
    trial_fails (names_in c.args.scene.now.names.now) c.args.defs.now c.args.scene.now.limits c.args.self.now.rules c.args.self.now.tally c.args.subject c.args.self.now.rest c.args.attempt c.step.new.self c.args.answer
    (rw c.in-Ok-Fails.field-0-is at (c.in-Ok-Fails.ensures.moved c.args.defs.now (definitions_tell c.args.scene.now.names.now c.args.defs.now)))

pub returns-clause-goes : goal.returns-clause-goes
returns-clause-goes c =
    trial_ends (names_in c.args.scene.now.names.now) c.args.defs.now c.args.scene.now.limits c.args.self.now.rules c.args.self.now.tally c.args.subject c.args.self.now.rest c.args.attempt c.step.new.self c.args.answer
    (c.in-Err.ensures.moved c.args.defs.now (definitions_tell c.args.scene.now.names.now c.args.defs.now))
