use Rattle.std.proofs.Common.{◌≡◌, ◌∙◌, ◌<◌, sym, ap, length, arith}
use Rattle.expr_tree.specs.Tree.{symbol}
use Rattle.expr_tree.specs.View.{tree_of}
use Rattle.machine_outward.proofs.Shaping.{symbol_parts, nonempty, rest_of}
use Rattle.machine_outward.proofs.loop_parts.shape_of.Goals as goal

pub returns-in-Symbol : goal.returns-in-Symbol
returns-in-Symbol c =
    let is : c.index-items-0.result ≡ symbol c.in-Symbol.symbol = sym c.node.ensures ∙ ap tree_of c.in-Symbol.is in
    let some : 0 < length c.args.items.now = nonempty (length c.args.items.now) c.if-is_empty.ensures in
    record { by = λ names k stay. symbol_parts c.args.items.now _ c.index-items-0.result c.in-Symbol.symbol (omega (arith, some)) (omega arith) c.index-items-0.is is (rest_of 1 c.args.items.now) names k stay }
