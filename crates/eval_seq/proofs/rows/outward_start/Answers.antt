use Rattle.eval_seq.proofs.RowStarts.{started_from}
use Rattle.semantics.specs.Table as t
use Rattle.builtin_names.specs.Named.{names_in}
use Rattle.eval_seq.proofs.rows.outward_start.Goals as goal

pub returns-clause-opens : goal.returns-clause-opens
returns-clause-opens c =
    rw c.machine_start.ensures
    (started_from (λ rest. t.row (names_in c.args.scene.now.names.now) c.args.row rest c.args.form.now.items.now) c.args.state.now.defs c.args.state.now.steps c.args.state.now.open_section c.in-Some.started
    (rw c.is_some.ensures at c.in-Some.ensures.starts))
