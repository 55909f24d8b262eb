use Rattle.std.proofs.Common.{◌∙◌, ap, arith}
use Rattle.builtin_names.specs.Named.{names_in}
use Rattle.semantics.specs.Control.{inner_form}
use Rattle.machine_iterators.specs.IterationForms.{row_of}
use Rattle.machine_iterators.proofs.Beginning.{begins}
use Rattle.machine_iterators.proofs.Shaping.{rest_of}
use Rattle.machine_iterators.proofs.iteration.Iteration.start.Goals as goal

pub returns : goal.returns
returns c = record {
  by = λ stay.
      begins (names_in c.args.names.now) c.args.form c.args.items.now c.body-item.result c.iterator-item.result c.as_slice.result.now c.in-Some-shape_of.shape.symbol c.in-Some-shape_of.shape.parts.now c.in_ok-rest.rest c.in_ok-expression.expression stay
      (omega arith) c.body-item.is c.iterator-item.is c.in-Some.ensures.0 (c.as_slice.ensures ∙ c.in-Some.ensures.1) c.in-Some-shape_of.ensures.by c.in_ok-rest.ensures
      (c.in_ok-expression.ensures ∙ ap (inner_form (names_in c.args.names.now) (row_of c.args.form) c.body-item.result) (rest_of 2 c.args.items.now));
}
