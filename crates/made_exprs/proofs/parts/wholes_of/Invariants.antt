use Rattle.std.proofs.Common.{◌≡◌, ◌≤◌, drop, take}
use Rattle.expr_tree.specs.Tree.{sizes, depths, trees}
use Rattle.made_exprs.proofs.parts.wholes_of.Given as goal

abbrev pub invariant-loop-item : goal.invariant-loop-item
invariant-loop-item l = record {
  copied : l.found ≡ take l.item-index l.items;
  small : sizes (trees (drop l.item-index l.items)) ≤ sizes (trees l.items);
  shallow : depths (trees (drop l.item-index l.items)) ≤ depths (trees l.items);
}
