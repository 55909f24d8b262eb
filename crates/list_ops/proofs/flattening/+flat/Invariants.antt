use Rattle.std.proofs.Common.{◌≡◌, ◌+◌, ◌*◌, ◌++◌, drop}
use Rattle.expr_tree.specs.Tree.{trees, depth, depths}
use Rattle.semantics.specs.Lists.{flat_items}
use Rattle.builtin_names.specs.Named.{names_in}
use Rattle.list_ops.proofs.flattening.+flat.Given as goal

abbrev pub decreases-put_flat : goal.decreases-put_flat
decreases-put_flat l = 2 * depth l.e.now

abbrev pub decreases-put_all_flat : goal.decreases-put_all_flat
decreases-put_all_flat l = 2 * depths (trees l.items.now) + 1

abbrev pub invariant-put_all_flat-loop-item : goal.invariant-put_all_flat-loop-item
invariant-put_all_flat-loop-item l =
    l.made ++ flat_items (names_in l.names) (trees (drop l.item-index l.items)) l.levels ≡ l.fn.made ++ flat_items (names_in l.names) (trees l.items) l.levels
