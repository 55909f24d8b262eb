use Rattle.std.proofs.Common.{◌≡◌, ◌+◌, ◌*◌, drop}
use Rattle.std.specs.Option.{option_map}
use Rattle.expr_tree.specs.Tree.{trees, depth, depths}
use Rattle.semantics.specs.Numbers.{all_integers}
use Rattle.builtin_names.specs.Named.{names_in}
use Rattle.rows_numbers.specs.Better.{better, kept}
use Rattle.rows_numbers.proofs.extremes.+extreme.Given as goal

abbrev pub decreases-best_in : goal.decreases-best_in
decreases-best_in l = 2 * depth l.e.now

abbrev pub decreases-best_of : goal.decreases-best_of
decreases-best_of l = 2 * depths (trees l.items.now) + 1

abbrev pub invariant-best_of-loop-item : goal.invariant-best_of-loop-item
invariant-best_of-loop-item l =
    option_map (kept (better l.extreme) l.best) (all_integers (names_in l.names) (trees (drop l.item-index l.items))) ≡ option_map (kept (better l.extreme) l.fn.before) (all_integers (names_in l.names) (trees l.items))
