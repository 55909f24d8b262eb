use Rattle.std.proofs.Common.{◌≡◌, ◌+◌, ◌≤◌, min, drop}
use Rattle.expr_tree.specs.Tree.{size, sizes, trees}
use Rattle.made_exprs.proofs.parts.nodes_of_call.Given as goal

abbrev pub invariant-loop-item : goal.invariant-loop-item
invariant-loop-item l = record {
  counted : min (l.total + sizes (trees (drop l.item-index l.items))) 4000001 ≡ min (size l.head + sizes (trees l.items)) 4000001;
  capped : l.total ≤ 4000001;
}
