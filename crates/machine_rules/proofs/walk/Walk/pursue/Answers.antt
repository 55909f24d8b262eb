use Rattle.builtin_names.specs.Named.{names_in}
use Rattle.machine_rules.proofs.Trying.{definitions_tell}
use Rattle.machine_rules.proofs.Walking.{trial_asks, trial_finds, trial_fails, trial_halts, rises_lighter, enters_lighter}
use Rattle.machine_rules.proofs.walk.Walk.pursue.Goals as goal

pub returns-in-Ok-Guard-clause-goes : goal.returns-in-Ok-Guard-clause-goes
returns-in-Ok-Guard-clause-goes c =
    trial_asks (names_in c.args.scene.now.names.now) c.args.defs.now c.args.scene.now.limits c.args.self.now c.args.present c.step.new.self c.args.answer
    (rw c.in-Ok-Guard.field-0-is at (c.in-Ok-Guard.ensures.moved c.args.defs.now (definitions_tell c.args.scene.now.names.now c.args.defs.now)))

pub returns-in_ok-rise-in-Ok-Found-clause-goes : goal.returns-in_ok-rise-in-Ok-Found-clause-goes
returns-in_ok-rise-in-Ok-Found-clause-goes c =
    trial_finds (names_in c.args.scene.now.names.now) c.args.defs.now c.args.scene.now.limits c.args.self.now c.args.present c.step.new.self c.args.answer
    c.in_ok-rise-in-Ok-Found.field-0 c.rise.new.self c.walked_whole.result c.walked_whole.ensures
    (rw c.in-Ok-Found.field-0-is at (c.in-Ok-Found.ensures.moved c.args.defs.now (definitions_tell c.args.scene.now.names.now c.args.defs.now)))
    c.in_ok-part-in-Ok-Found.ensures c.in_ok-rise-in-Ok-Found.ensures

pub returns-in_ok-rise-in-Ok-Found-clause-falls : goal.returns-in_ok-rise-in-Ok-Found-clause-falls
returns-in_ok-rise-in-Ok-Found-clause-falls c =
    rises_lighter c.args.self.now c.rise.new.self c.in_ok-part-in-Ok-Found.part c.in_ok-rise-in-Ok-Found.field-0 c.walked_whole.result c.walked_whole.ensures c.in_ok-rise-in-Ok-Found.ensures

pub returns-in_ok-enter-in-Ok-Fails-clause-goes : goal.returns-in_ok-enter-in-Ok-Fails-clause-goes
returns-in_ok-enter-in-Ok-Fails-clause-goes c =
    trial_fails (names_in c.args.scene.now.names.now) c.args.defs.now c.args.scene.now.limits c.args.self.now c.args.present c.step.new.self c.args.answer
    c.in_ok-enter-in-Ok-Fails.field-0 c.enter.new.self c.walked_whole-in-Ok-Fails.result c.walked_whole-in-Ok-Fails.ensures
    (rw c.in-Ok-Fails.field-0-is at (c.in-Ok-Fails.ensures.moved c.args.defs.now (definitions_tell c.args.scene.now.names.now c.args.defs.now)))
    c.in_ok-enter-in-Ok-Fails.ensures

pub returns-in_ok-enter-in-Ok-Fails-clause-falls : goal.returns-in_ok-enter-in-Ok-Fails-clause-falls
returns-in_ok-enter-in-Ok-Fails-clause-falls c =
    enters_lighter c.args.self.now c.enter.new.self c.in_ok-enter-in-Ok-Fails.field-0 c.walked_whole-in-Ok-Fails.result c.walked_whole-in-Ok-Fails.ensures c.in_ok-enter-in-Ok-Fails.ensures

pub returns-in-Err-clause-goes : goal.returns-in-Err-clause-goes
returns-in-Err-clause-goes c =
    trial_halts (names_in c.args.scene.now.names.now) c.args.defs.now c.args.scene.now.limits c.args.self.now c.args.present c.step.new.self c.args.answer
    (c.in-Err.ensures.moved c.args.defs.now (definitions_tell c.args.scene.now.names.now c.args.defs.now))
