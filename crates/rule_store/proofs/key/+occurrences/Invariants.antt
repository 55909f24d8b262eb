use Rattle.std.proofs.Common.{◌≡◌, ◌+◌, ◌*◌, drop}
use Rattle.expr_tree.specs.Tree.{depth, depths, trees}
use Rattle.semantics.specs.Rule.{occurrences_in}
use Rattle.builtin_names.specs.Named.{names_in}
use Rattle.rule_store.specs.Keys.{is_counted}
use Rattle.rule_store.proofs.key.+occurrences.Given as goal

abbrev pub decreases-occurrences : goal.decreases-occurrences
decreases-occurrences l = 2 * depth l.e.now

abbrev pub decreases-occurrences_in : goal.decreases-occurrences_in
decreases-occurrences_in l = 2 * depths (trees l.items.now) + 1

abbrev pub invariant-occurrences_in-loop-item : goal.invariant-occurrences_in-loop-item
invariant-occurrences_in-loop-item l =
    l.total + occurrences_in (is_counted l.what (names_in l.names)) (trees (drop l.item-index l.items)) ≡ occurrences_in (is_counted l.what (names_in l.names)) (trees l.items)
