use Rattle.std.proofs.Common.{◌≡◌, ◌+◌, ◌*◌, ◌++◌, ◌≤◌, drop, take}
use Rattle.expr_tree.specs.Tree.{depth, depths, sizes, trees, elements}
use Rattle.semantics.specs.InPlace.{fill_in_items}
use Rattle.builtin_names.specs.Named.{names_in}
use Rattle.function_calls.proofs.fill.+fill.Given as goal

abbrev pub decreases-fill : goal.decreases-fill
decreases-fill l = 3 * depth l.e.now

abbrev pub decreases-fill_all : goal.decreases-fill_all
decreases-fill_all l = 3 * depths (trees l.items.now) + 2

abbrev pub decreases-fill_rest : goal.decreases-fill_rest
decreases-fill_rest l = 3 * depths (trees l.items.now) + 1

abbrev pub invariant-fill_all-loop-i : goal.invariant-fill_all-loop-i
invariant-fill_all-loop-i l =
    let rest = fill_in_items (names_in l.names) l.args (trees (drop l.i l.items)) in
    let whole = fill_in_items (names_in l.names) l.args (trees l.items) in
    record {
      joined : take l.i l.items ++ elements rest ≡ elements whole;
      no_larger : sizes rest ≤ sizes whole;
      no_deeper : depths rest ≤ depths whole;
    }

-- the elements so far, and what becomes of those that are left, which is no larger and no deeper than what became of all
abbrev pub invariant-fill_rest-loop-i : goal.invariant-fill_rest-loop-i
invariant-fill_rest-loop-i l =
    let rest = fill_in_items (names_in l.names) l.args (trees (drop l.i l.items)) in
    let whole = fill_in_items (names_in l.names) l.args (trees (drop l.from l.items)) in
    record {
      joined : l.made ++ elements rest ≡ l.fn.made ++ elements whole;
      no_larger : sizes rest ≤ sizes whole;
      no_deeper : depths rest ≤ depths whole;
    }
