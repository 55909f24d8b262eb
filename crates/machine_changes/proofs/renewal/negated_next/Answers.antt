use Rattle.builtin_names.specs.Named.{names_in}
use Rattle.machine_changes.specs.declared.renewal.Operand.{Operand}
use Rattle.machine_changes.specs.Renewing.{operand_of}
use Rattle.machine_changes.proofs.renewal.negated_next.Goals as goal

pub returns-in-Err : goal.returns-in-Err
returns-in-Err c = record { by = c.stop_behind.ensures c.args.head (operand_of (names_in c.args.scene.now.names.now) (Operand.Negated c.args.e.now)) (rw c.in-Err.is at c.negated.ensures) }
