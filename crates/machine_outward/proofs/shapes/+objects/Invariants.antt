use Rattle.std.proofs.Common.{◌≡◌, ◌+◌, ◌*◌, drop}
use Rattle.expr_tree.specs.Tree.{trees, depth, depths}
use Rattle.semantics.specs.Sections.{any_object}
use Rattle.builtin_names.specs.Named.{names_in}
use Rattle.machine_outward.proofs.shapes.+objects.Given as goal

abbrev pub decreases-has_object : goal.decreases-has_object
decreases-has_object l = 2 * depth l.e.now

abbrev pub decreases-any_object : goal.decreases-any_object
decreases-any_object l = 2 * depths (trees l.items.now) + 1

abbrev pub invariant-any_object-loop-item : goal.invariant-any_object-loop-item
invariant-any_object-loop-item l = any_object (names_in l.names) (trees (drop l.item-index l.items)) ≡ any_object (names_in l.names) (trees l.items)
