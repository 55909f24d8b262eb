use Rattle.std.proofs.Common.{◌≡◌, ◌+◌, ◌*◌, drop}
use Rattle.expr_tree.specs.Tree.{trees, depth, depths}
use Rattle.journal.specs.Closure.{symbols_of_items}
use Rattle.dist_bundle.specs.Search.{added_all}
use Rattle.dist_bundle.proofs.search.Search.+add.Given as goal

abbrev pub decreases-add_tree : goal.decreases-add_tree
decreases-add_tree l = 2 * depth l.e.now

abbrev pub decreases-add_items : goal.decreases-add_items
decreases-add_items l = 2 * depths (trees l.items.now) + 1

abbrev pub invariant-add_items-loop-item : goal.invariant-add_items-loop-item
invariant-add_items-loop-item l = added_all (symbols_of_items (trees (drop l.item-index l.items))) l.self ≡ added_all (symbols_of_items (trees l.items)) l.fn.self
