use Rattle.std.proofs.Common.{refl}
use Rattle.builtin_names.specs.Named.{names_in}
use Rattle.rule_frames.specs.Trials.{left}
use Rattle.machine_rows.proofs.Steps.{step_fails, step_guards, step_trial_halts, step_yields}
use Rattle.machine_rows.proofs.Trials.{rules_fall}
use Rattle.machine_rows.proofs.rule_trial.step_rules.Goals as goal

pub returns-in-Ok-Guard-clause-stepped : goal.returns-in-Ok-Guard-clause-stepped
returns-in-Ok-Guard-clause-stepped c =
    λ stay used.
    step_guards {a = left (names_in c.args.scene.now.names.now) c.args.attempt.now c.args.answer} {rest = left (names_in c.args.scene.now.names.now) c.step.new.self}
    (rw c.in-Ok-Guard.field-0-is at (c.in-Ok-Guard.ensures.moved c.args.defs.now (record { by = λ s. refl })))

pub returns-in-Ok-Guard-clause-falls : goal.returns-in-Ok-Guard-clause-falls
returns-in-Ok-Guard-clause-falls c =
    rules_fall c.args.attempt.now c.step.new.self c.args.answer c.in-Ok-Guard.e c.in-Ok-Guard.turn (rw c.in-Ok-Guard.field-0-is at (c.in-Ok-Guard.ensures.moved c.args.defs.now (record { by = λ s. refl })))

pub returns-in-Ok-Found-clause-stepped : goal.returns-in-Ok-Found-clause-stepped
returns-in-Ok-Found-clause-stepped c =
    λ stay used.
    rw c.result_move.ensures
    (step_yields {a = left (names_in c.args.scene.now.names.now) c.args.attempt.now c.args.answer} {rest = left (names_in c.args.scene.now.names.now) c.step.new.self} c.placed.result
    (rw c.in-Ok-Found.field-0-is at (c.in-Ok-Found.ensures.moved c.args.defs.now (record { by = λ s. refl }))) c.placed.ensures)

pub returns-in-Ok-Fails-clause-stepped : goal.returns-in-Ok-Fails-clause-stepped
returns-in-Ok-Fails-clause-stepped c =
    λ stay used.
    step_fails {a = left (names_in c.args.scene.now.names.now) c.args.attempt.now c.args.answer} {rest = left (names_in c.args.scene.now.names.now) c.step.new.self}
    (rw c.in-Ok-Fails.field-0-is at (c.in-Ok-Fails.ensures.moved c.args.defs.now (record { by = λ s. refl })))

pub returns-in-Err-clause-stepped : goal.returns-in-Err-clause-stepped
returns-in-Err-clause-stepped c =
    λ stay used.
    step_trial_halts {a = left (names_in c.args.scene.now.names.now) c.args.attempt.now c.args.answer} {rest = left (names_in c.args.scene.now.names.now) c.step.new.self} c.in-Err.halt
    (c.in-Err.ensures.moved c.args.defs.now (record { by = λ s. refl }))
