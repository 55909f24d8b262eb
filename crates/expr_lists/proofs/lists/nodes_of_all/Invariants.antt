use Rattle.std.proofs.Common.{◌≡◌, ◌+◌, ◌≤◌, min, drop}
use Rattle.expr_tree.specs.Tree.{sizes, trees}
use Rattle.expr_lists.proofs.lists.nodes_of_all.Given as goal

abbrev pub invariant-loop-item : goal.invariant-loop-item
invariant-loop-item l = record {
  counted : min (l.total + sizes (trees (drop l.item-index l.items))) 4000001 ≡ min (sizes (trees l.items)) 4000001;
  capped : l.total ≤ 4000001;
}
