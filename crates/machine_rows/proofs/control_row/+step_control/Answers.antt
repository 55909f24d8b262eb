use Rattle.std.proofs.Common.{◌∙◌, sym}
use Rattle.machine_rows.proofs.Steps.{step_asks, step_done, step_halts, step_results, step_shared, step_unshared, step_within}
use Rattle.machine_rows.proofs.Falling.{falls_less}
use Rattle.frames_control.specs.ControlLeft.{questions}
use Rattle.machine_rows.proofs.control_row.+step_control.Goals as goal

pub returns-then-is_shared-clause-stepped : goal.returns-then-is_shared-clause-stepped
returns-then-is_shared-clause-stepped t c = λ stay. step_shared (rw c.in-Ok-Unless.field-0-is at c.in-Ok-Unless.ensures.moved) (rw c.shared.ensures at (sym c.is_shared.ensures ∙ c.if-is_shared.true))

pub returns-in-Ok-Ask-clause-stepped : goal.returns-in-Ok-Ask-clause-stepped
returns-in-Ok-Ask-clause-stepped t c = λ stay. step_asks (rw c.in-Ok-Ask.field-0-is at c.in-Ok-Ask.ensures.moved)

pub returns-in_ok-locals_of-in-Ok-Local-clause-stepped : goal.returns-in_ok-locals_of-in-Ok-Local-clause-stepped
returns-in_ok-locals_of-in-Ok-Local-clause-stepped t c = λ stay. step_within (rw c.in-Ok-Local.field-0-is at c.in-Ok-Local.ensures.moved) c.in_ok-locals_of-in-Ok-Local.ensures

pub returns-else-is_shared-clause-stepped : goal.returns-else-is_shared-clause-stepped
returns-else-is_shared-clause-stepped t c =
    λ stay. step_unshared c.step_control.result (rw c.in-Ok-Unless.field-0-is at c.in-Ok-Unless.ensures.moved) (rw c.shared.ensures at (sym c.is_shared.ensures ∙ c.if-is_shared.false)) (c.step_control.ensures.stepped stay)

pub returns-else-is_shared-clause-falls : goal.returns-else-is_shared-clause-falls
returns-else-is_shared-clause-falls t c = falls_less c.step_control.result (λ v. questions c.step_control.new.form) _ (rw c.in-Ok-Unless.field-0-is at c.in-Ok-Unless.ensures.falls) c.step_control.ensures.falls

pub returns-in-Ok-Done-clause-stepped : goal.returns-in-Ok-Done-clause-stepped
returns-in-Ok-Done-clause-stepped t c = λ stay. step_done (rw c.in-Ok-Done.field-0-is at c.in-Ok-Done.ensures.moved)

pub returns-in-Ok-Build-clause-stepped : goal.returns-in-Ok-Build-clause-stepped
returns-in-Ok-Build-clause-stepped t c = λ stay. rw c.result_move.ensures (step_results c.checked.result (rw c.in-Ok-Build.field-0-is at c.in-Ok-Build.ensures.moved) c.checked.ensures)

pub returns-in-Err-clause-stepped : goal.returns-in-Err-clause-stepped
returns-in-Err-clause-stepped t c = λ stay. step_halts c.in-Err.halt c.in-Err.ensures.moved
