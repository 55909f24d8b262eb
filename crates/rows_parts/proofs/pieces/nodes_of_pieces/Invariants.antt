use Rattle.std.proofs.Common.{◌≡◌, ◌+◌, ◌≤◌, ◌-◌, min, length, map}
use Rattle.expr_tree.specs.Tree.{call, sizes, trees}
use Rattle.rows_parts.specs.Cut.{cut}
use Rattle.rows_parts.proofs.pieces.nodes_of_pieces.Given as goal

abbrev pub decreases-loop-place : goal.decreases-loop-place
decreases-loop-place l = length l.items - l.place

abbrev pub invariant-loop-place : goal.invariant-loop-place
invariant-loop-place l = record {
  inside : l.place ≤ length l.items;
  counted : min (l.total + sizes (trees (map (call l.head) (cut l.length l.place l.items)))) 4000001 ≡ min (sizes (trees (map (call l.head) (cut l.length 0 l.items)))) 4000001;
  capped : l.total ≤ 4000001;
}
