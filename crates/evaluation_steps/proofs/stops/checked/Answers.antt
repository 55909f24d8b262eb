use Rattle.expr_tree.specs.Tree.{call}
use Rattle.evaluation_steps.proofs.stops.checked.Goals as goal

pub returns-in-Err : goal.returns-in-Err
returns-in-Err c = record { by = c.stop_for.ensures (call c.args.head c.args.items) (rw c.in-Err.is at c.normal.ensures) }
