use Rattle.std.proofs.Common.{◌≡◌, ◌+◌, ◌*◌, ◌≤◌, max, min, drop}
use Rattle.expr_tree.specs.Tree.{depth, depths, size, sizes, trees}
use Rattle.expr_tree.specs.Substitution.{put_in_place, put_in_items, without}
use Rattle.substitution.proofs.count.+count.Given as goal

abbrev pub decreases-nodes_after : goal.decreases-nodes_after
decreases-nodes_after l = 2 * depth l.e.now

abbrev pub decreases-level_after : goal.decreases-level_after
decreases-level_after l = 2 * max (depth l.head.now) (depths (trees l.items.now)) + 1

abbrev pub invariant-level_after-loop-item : goal.invariant-level_after-loop-item
invariant-level_after-loop-item l =
    let rest = put_in_items l.binders (without l.hidden l.bindings) (trees (drop l.item-index l.items)) in
    let whole = put_in_items l.binders (without l.hidden l.bindings) (trees l.items) in
    record {
      counted : min (l.total + sizes rest) 4000001 ≡ min (size (put_in_place l.binders (without l.hidden l.bindings) l.head) + sizes whole) 4000001;
      capped : l.total ≤ 4000001;
    }
