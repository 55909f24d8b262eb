use Rattle.std.proofs.Common.{FitsSigned, arith, rules}
use Rattle.std.specs.Int.{w128}
use Rattle.std.proofs.lemmas.Int.{ints, to_z-of_z}
use Rattle.machine_iterators.specs.declared.iterator_values.IteratorValues.{IteratorValues}
use Rattle.machine_iterators.proofs.Numbering.{from_one, from_start, by_steps, not_zero}
use Rattle.machine_iterators.proofs.parts.number_values.Goals as goal

pub returns-in-Nothing-clause-found : goal.returns-in-Nothing-clause-found
returns-in-Nothing-clause-found c = λ names b stay rest.
    record { by = from_one names b c.args.known c.args.last _ stay (IteratorValues.Numbers c.new.result) c.in-Nothing.is (to_z-of_z w128 c.args.last c.ranges.last) c.new.ensures.numbers }

pub returns-in-Start-clause-found : goal.returns-in-Start-clause-found
returns-in-Start-clause-found c = λ names b stay rest.
    let f : FitsSigned w128 c.in-Start.from = search rules in
    record { by = from_start names b c.args.known c.in-Start.from _ c.args.last _ stay (IteratorValues.Numbers c.new-in-Start.result) c.in-Start.is (to_z-of_z w128 c.in-Start.from f) (to_z-of_z w128 c.args.last c.ranges.last) c.new-in-Start.ensures.numbers }

pub returns-else-last-eq0-clause-found : goal.returns-else-last-eq0-clause-found
returns-else-last-eq0-clause-found c = λ names b stay rest.
    let f : FitsSigned w128 c.in-Span.from = search rules in
    let g : FitsSigned w128 c.in-Span.to = search rules in
    let h = c.if-last-eq0.false in
    record { by = by_steps names b c.args.known c.in-Span.from _ c.in-Span.to _ c.args.last _ stay (IteratorValues.Numbers c.new-else-last-eq0.result) c.in-Span.is (to_z-of_z w128 c.in-Span.from f) (to_z-of_z w128 c.in-Span.to g) (to_z-of_z w128 c.args.last c.ranges.last) (not_zero c.args.last (λ e. omega (arith, ints, e))) c.new-else-last-eq0.ensures.numbers }
