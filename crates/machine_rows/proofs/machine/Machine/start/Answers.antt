use Rattle.builtin_names.specs.Named.{names_in}
use Rattle.semantics.specs.Table as t
use Rattle.machine_rows.proofs.machine.Machine.start.Goals as goal

pub returns-in-Some-start-clause-starts : goal.returns-in-Some-start-clause-starts
returns-in-Some-start-clause-starts c = c.change_machine.ensures (names_in c.args.names.now) (λ stay. t.row (names_in c.args.names.now) c.args.row stay c.args.items.now) c.in-Some-start.ensures.starts

pub returns-in-Some-start-2-clause-starts : goal.returns-in-Some-start-2-clause-starts
returns-in-Some-start-2-clause-starts c = c.iteration_machine.ensures (names_in c.args.names.now) (λ stay. t.row (names_in c.args.names.now) c.args.row stay c.args.items.now) c.in-Some-start-2.ensures.starts

pub returns-in-Some-start-3-clause-starts : goal.returns-in-Some-start-3-clause-starts
returns-in-Some-start-3-clause-starts c = c.rule_machine.ensures (names_in c.args.names.now) (λ stay. t.row (names_in c.args.names.now) c.args.row stay c.args.items.now) c.in-Some-start-3.ensures.started
