use Rattle.std.proofs.Common.{◌≡◌, ◌++◌, ◌≤◌, ◌-◌, length, map}
use Rattle.expr_tree.specs.Tree.{call, depths, sizes, trees}
use Rattle.rows_parts.specs.Cut.{cut}
use Rattle.rows_parts.proofs.pieces.pieces.Given as goal

abbrev pub decreases-loop-place : goal.decreases-loop-place
decreases-loop-place l = length l.items - l.place

-- the pieces so far, and those of what is left, which are no larger and no deeper than all
abbrev pub invariant-loop-place : goal.invariant-loop-place
invariant-loop-place l =
    let rest = map (call l.head) (cut l.length l.place l.items) in
    let whole = map (call l.head) (cut l.length 0 l.items) in
    record {
      inside : l.place ≤ length l.items;
      joined : l.made ++ rest ≡ whole;
      no_larger : sizes (trees rest) ≤ sizes (trees whole);
      no_deeper : depths (trees rest) ≤ depths (trees whole);
    }
