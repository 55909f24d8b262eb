use Rattle.std.proofs.Common.{◌≡◌, ◌+◌, ◌*◌, drop}
use Rattle.expr_tree.specs.Tree.{trees, depth, depths}
use Rattle.match_seq.specs.Search.{both, all_extent}
use Rattle.match_seq.proofs.constructs.Constructs.+extent.Given as goal

abbrev pub decreases-extent : goal.decreases-extent
decreases-extent l = 2 * depth l.pattern.now

abbrev pub decreases-extent_of_each : goal.decreases-extent_of_each
decreases-extent_of_each l = 2 * depths (trees l.patterns.now) + 1

abbrev pub invariant-extent_of_each-loop-pattern : goal.invariant-extent_of_each-loop-pattern
invariant-extent_of_each-loop-pattern l =
    both l.all (all_extent l.self (trees (drop l.pattern-index l.patterns))) ≡ all_extent l.self (trees l.patterns)
