use Rattle.frames_control.specs.ControlLeft.{questions}
use Rattle.machine_rows.proofs.control_row.+step_control.Given as goal

abbrev pub decreases-step_control : goal.decreases-step_control
decreases-step_control l = questions l.form.now
