use Rattle.std.proofs.Common.{◌≡◌, ◌+◌, ◌*◌, ◌++◌, ◌≤◌, max, drop, take}
use Rattle.expr_tree.specs.Tree.{depth, depths, sizes, trees, elements}
use Rattle.expr_tree.specs.Substitution.{put_in_items, without}
use Rattle.substitution.proofs.place.+put.Given as goal

abbrev pub decreases-put : goal.decreases-put
decreases-put l = 4 * depth l.e.now

abbrev pub decreases-put_level : goal.decreases-put_level
decreases-put_level l = 4 * max (depth l.head.now) (depths (trees l.items.now)) + 3

abbrev pub decreases-put_all : goal.decreases-put_all
decreases-put_all l = 4 * depths (trees l.items.now) + 2

abbrev pub decreases-put_rest : goal.decreases-put_rest
decreases-put_rest l = 4 * depths (trees l.items.now) + 1

abbrev pub invariant-put_all-loop-i : goal.invariant-put_all-loop-i
invariant-put_all-loop-i l =
    let rest = put_in_items l.binders (without l.hidden l.bindings) (trees (drop l.i l.items)) in
    let whole = put_in_items l.binders (without l.hidden l.bindings) (trees l.items) in
    record {
      joined : take l.i l.items ++ elements rest ≡ elements whole;
      no_larger : sizes rest ≤ sizes whole;
      no_deeper : depths rest ≤ depths whole;
    }

-- the elements so far, and what becomes of those that are left, which is no larger and no deeper than what became of all
abbrev pub invariant-put_rest-loop-i : goal.invariant-put_rest-loop-i
invariant-put_rest-loop-i l =
    let rest = put_in_items l.binders (without l.hidden l.bindings) (trees (drop l.i l.items)) in
    let whole = put_in_items l.binders (without l.hidden l.bindings) (trees (drop l.from l.items)) in
    record {
      joined : l.made ++ elements rest ≡ l.fn.made ++ elements whole;
      no_larger : sizes rest ≤ sizes whole;
      no_deeper : depths rest ≤ depths whole;
    }
