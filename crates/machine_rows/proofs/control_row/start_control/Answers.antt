use Rattle.machine_rows.proofs.control_row.start_control.Goals as goal

pub returns-in-Ok-Some : goal.returns-in-Ok-Some
returns-in-Ok-Some c = record { by = λ stay. (rw c.in-Ok-Some.field-0-is at (c.in-Ok-Some.ensures stay)).by }

pub returns-in-Ok-None : goal.returns-in-Ok-None
returns-in-Ok-None c = record { by = λ stay. (rw c.in-Ok-None.field-0-is at (c.in-Ok-None.ensures stay)).by }
