use Rattle.builtin_names.specs.Named.{names_in}
use Rattle.semantics.specs.Names.{make}
use Rattle.machine_iterators.proofs.Shown.{not_made}
use Rattle.machine_iterators.proofs.turns.row_of_values.Goals as goal

pub returns-in-Err-clause-stepped : goal.returns-in-Err-clause-stepped
returns-in-Err-clause-stepped c = λ stay d used rest.
    let t = make (names_in c.args.scene.now.names.now) c.args.row c.args.values in
    not_made t c.stop_for.result (c.stop_for.ensures t (rw c.in-Err.is at c.make.ensures))
