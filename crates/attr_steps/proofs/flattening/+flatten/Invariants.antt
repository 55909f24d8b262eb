use Rattle.std.proofs.Common.{◌≡◌, ◌+◌, ◌*◌, ◌++◌, drop}
use Rattle.expr_tree.specs.Tree.{depth, depths, trees}
use Rattle.semantics.specs.Steps.{flatten_items}
use Rattle.attr_steps.proofs.flattening.+flatten.Given as goal

abbrev pub decreases-add_item : goal.decreases-add_item
decreases-add_item l = 2 * depth l.item.now

abbrev pub decreases-add_items : goal.decreases-add_items
decreases-add_items l = 2 * depths (trees l.items.now) + 1

abbrev pub invariant-add_items-loop-item : goal.invariant-add_items-loop-item
invariant-add_items-loop-item l =
    l.flat ++ flatten_items l.head (trees (drop l.item-index l.items)) ≡ l.fn.flat ++ flatten_items l.head (trees l.items)
