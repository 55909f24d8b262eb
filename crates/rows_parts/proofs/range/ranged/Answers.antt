use Rattle.std.proofs.Common.{sym, ◌∙◌, ltb}
use Rattle.std.specs.Int.{w128}
use Rattle.std.proofs.lemmas.Int.{to_z-of_z}
use Rattle.semantics.specs.Control.{steps_to}
use Rattle.builtin_names.specs.Named.{names_in}
use Rattle.rows_parts.proofs.Ranges.{range_large}
use Rattle.rows_parts.proofs.range.ranged.Goals as goal

pub returns-else-are_few : goal.returns-else-are_few
returns-else-are_few c =
    let from = to_z-of_z w128 c.args.from c.ranges.from in
    let to = to_z-of_z w128 c.args.to c.ranges.to in
    let by = to_z-of_z w128 c.args.by c.ranges.by in
    range_large (names_in c.args.names.now) c.args.from c.args.by (steps_to c.args.from c.args.to c.args.by)
    ((λ i. ltb (steps_to (sym from i) (sym to i) (sym by i)) 4000000) ∙ sym c.are_few.ensures ∙ c.if-are_few.false)
