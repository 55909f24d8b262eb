use Rattle.std.proofs.Common.{◌≡◌, ◌∙◌, sym, ap, length}
use Rattle.expr_tree.specs.Tree.{normal, trees}
use Rattle.expr_tree.specs.View.{tree_of}
use Rattle.machine_outward.proofs.MethodOptions.{no_pair_long}
use Rattle.machine_outward.proofs.options.pair_of.Goals as goal

pub returns-then-items-ne2 : goal.returns-then-items-ne2
returns-then-items-ne2 c =
    let shape : c.args.e.now ≡ normal c.in-Normal.head.value (trees c.in-Normal.items) = sym c.node.ensures ∙ ap tree_of c.in-Normal.is in
    record { by = no_pair_long c.args.e.now c.in-Normal.head.value c.in-Normal.items shape (λ two. c.if-items-ne2.true (ap length c.as_slice-items.ensures ∙ two)) }
