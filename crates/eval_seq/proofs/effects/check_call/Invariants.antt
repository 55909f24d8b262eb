use Rattle.std.proofs.Common.{◌≡◌, ◌+◌, ◌≤◌, max, drop}
use Rattle.expr_tree.specs.Tree.{size, sizes, depth, depths, trees}
use Rattle.eval_seq.proofs.effects.check_call.Given as goal

abbrev pub invariant-loop-item : goal.invariant-loop-item
invariant-loop-item l = record {
  nodes_is : l.nodes + sizes (trees (drop l.item-index l.fn.items)) ≡ size l.fn.head + sizes (trees l.fn.items);
  levels_is : max l.levels (depths (trees (drop l.item-index l.fn.items))) ≡ max (depth l.fn.head) (depths (trees l.fn.items));
  small : l.nodes ≤ 4000000;
  shallow : l.levels ≤ 512;
}
