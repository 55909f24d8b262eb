use Rattle.std.proofs.Common.{◌≡◌, ◌+◌, ◌*◌, drop}
use Rattle.expr_tree.specs.Tree.{trees, depth, depths}
use Rattle.expr_tree.specs.Order.{trees_cmp}
use Rattle.canon_order.proofs.+order.Given as goal

abbrev pub decreases-compare : goal.decreases-compare
decreases-compare l = 2 * depth l.a.now

abbrev pub decreases-compare_items : goal.decreases-compare_items
decreases-compare_items l = 2 * depths (trees l.xs.now) + 1

abbrev pub invariant-compare_items-loop-i : goal.invariant-compare_items-loop-i
invariant-compare_items-loop-i l =
    trees_cmp (trees (drop l.i l.xs)) (trees (drop l.i l.ys)) ≡ trees_cmp (trees l.xs) (trees l.ys)
