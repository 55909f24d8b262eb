use Rattle.std.proofs.Common.{◌≡◌}
use Rattle.expr_tree.specs.Tree.{call}
use Rattle.machine_outward.proofs.Moving.{not_made}
use Rattle.machine_outward.proofs.combine.call_move.Goals as goal

pub returns-in-Err-clause-stepped : goal.returns-in-Err-clause-stepped
returns-in-Err-clause-stepped c = λ stay d used rest.
    let t = call c.args.head c.args.items in
    not_made t c.stop_for.result (c.stop_for.ensures t (rw c.in-Err.is at c.normal.ensures))
