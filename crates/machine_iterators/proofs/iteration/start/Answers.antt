use Rattle.std.proofs.Common.{sym, subst}
use Rattle.semantics.specs.declared.builtin.Builtin.{Builtin}
use Rattle.semantics.specs.Table.{row}
use Rattle.builtin_names.specs.Named.{names_in}
use Rattle.machine_steps.specs.Steps.{Starts}
use Rattle.machine_iterators.specs.IterationLeft.{left}
use Rattle.machine_iterators.proofs.iteration.start.Goals as goal

pub returns-in-Do-clause-starts : goal.returns-in-Do-clause-starts
unfolding row
returns-in-Do-clause-starts c =
    let names = names_in c.args.names.now in
    subst (λ (r : Builtin). Starts (left names) (λ stay. row names r stay c.args.items.now) c.start.result) (sym c.in-Do.is) c.start.ensures

pub returns-in-Table-clause-starts : goal.returns-in-Table-clause-starts
unfolding row
returns-in-Table-clause-starts c =
    let names = names_in c.args.names.now in
    subst (λ (r : Builtin). Starts (left names) (λ stay. row names r stay c.args.items.now) c.start-in-Table.result) (sym c.in-Table.is) c.start-in-Table.ensures

pub returns-in-Sum-clause-starts : goal.returns-in-Sum-clause-starts
unfolding row
returns-in-Sum-clause-starts c =
    let names = names_in c.args.names.now in
    subst (λ (r : Builtin). Starts (left names) (λ stay. row names r stay c.args.items.now) c.start-in-Sum.result) (sym c.in-Sum.is) c.start-in-Sum.ensures
