use Rattle.machine_changes.proofs.Going.{ends_large}
use Rattle.machine_changes.proofs.attributes.attributes_told.Goals as goal

pub returns-in-Err : goal.returns-in-Err
returns-in-Err c = λ used stay rest. ends_large _ _ (c.stop_for.ensures _ (rw c.in-Err.is at c.told_list.ensures))
