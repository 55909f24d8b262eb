use Rattle.std.proofs.Common.{rules, ap, subst, ◌∙◌, ◌≡◌}
use Rattle.std.specs.Prelude.{FitsSigned}
use Rattle.std.specs.Int.{w128}
use Rattle.std.proofs.lemmas.Int.{to_z-of_z}
use Rattle.std.specs.List.Sorted.{IsSortedBy}
use Rattle.expr_tree.specs.Order.{comes_before}
use Rattle.semantics.specs.Numbers.{assembled}
use Rattle.semantics.specs.Steps.{ordered}
use Rattle.builtin_names.specs.Named.{names_in}
use Rattle.builtin_names.specs.Results.{Makes}
use Rattle.sum_forms.proofs.Lists.{kept}
use Rattle.sum_forms.proofs.Order.{sorted-ordered}
use Rattle.sum_forms.proofs.terms.Terms.finish.Goals as goal

pub returns-then-self : goal.returns-then-self
returns-then-self c ts plans =
    let unit_fits : FitsSigned w128 c.args.unit = c.ranges.unit in
    let whole_fits : FitsSigned w128 c.args.whole = c.ranges.whole in
    record { by = simp to_z-of_z at (c.fault.ensures (names_in c.args.names.now) c.args.row ts plans) }

pub returns : goal.returns
returns c ts plans =
    let unit_fits : FitsSigned w128 c.args.unit = c.ranges.unit in
    let whole_fits : FitsSigned w128 c.args.whole = c.ranges.whole in
    let items = c.put_in_order.new.items in
    let sorted : IsSortedBy comes_before items = search rules in
    let held : c.args.self.held ≡ ts = kept ts c.args.self plans (search rules) in
    subst (λ es. Makes (assembled (names_in c.args.names.now) c.args.row c.args.unit c.args.whole es) c.beside_integer.result)
    (sorted-ordered c.args.self.held items (search rules) sorted ∙ ap ordered held) (simp to_z-of_z at c.beside_integer.ensures)
