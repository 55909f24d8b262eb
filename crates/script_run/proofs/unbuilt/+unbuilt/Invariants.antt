use Rattle.std.proofs.Common.{◌≡◌, ◌+◌, ◌*◌, drop}
use Rattle.expr_tree.specs.Tree.{trees, depth, depths}
use Rattle.builtin_names.specs.Named.{names_in}
use Rattle.sequential_transcript.specs.Unbuilt.{have_unbuilt}
use Rattle.script_run.proofs.unbuilt.+unbuilt.Given as goal

abbrev pub decreases-has_unbuilt : goal.decreases-has_unbuilt
decreases-has_unbuilt l = 2 * depth l.e.now

abbrev pub decreases-have_unbuilt : goal.decreases-have_unbuilt
decreases-have_unbuilt l = 2 * depths (trees l.items.now) + 1

abbrev pub invariant-have_unbuilt-loop-item : goal.invariant-have_unbuilt-loop-item
invariant-have_unbuilt-loop-item l = have_unbuilt (names_in l.names) (trees (drop l.item-index l.items)) ≡ have_unbuilt (names_in l.names) (trees l.items)
