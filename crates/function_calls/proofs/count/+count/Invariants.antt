use Rattle.std.proofs.Common.{◌≡◌, ◌+◌, ◌*◌, ◌≤◌, min, drop}
use Rattle.expr_tree.specs.Tree.{depth, depths, sizes, trees}
use Rattle.semantics.specs.InPlace.{fill_in_items}
use Rattle.builtin_names.specs.Named.{names_in}
use Rattle.function_calls.proofs.count.+count.Given as goal

abbrev pub decreases-nodes_after : goal.decreases-nodes_after
decreases-nodes_after l = 2 * depth l.e.now

abbrev pub decreases-nodes_after_all : goal.decreases-nodes_after_all
decreases-nodes_after_all l = 2 * depths (trees l.items.now) + 1

abbrev pub invariant-nodes_after_all-loop-item : goal.invariant-nodes_after_all-loop-item
invariant-nodes_after_all-loop-item l =
    let rest = fill_in_items (names_in l.names) l.args (trees (drop l.item-index l.items)) in
    let whole = fill_in_items (names_in l.names) l.args (trees l.items) in
    record {
      counted : min (l.total + sizes rest) 4000001 ≡ min (sizes whole) 4000001;
      capped : l.total ≤ 4000001;
    }
