use Rattle.std.proofs.Common.{◌≡◌, drop}
use Rattle.expr_tree.specs.Tree.{trees}
use Rattle.match_seq.specs.Goals.{matching_of}
use Rattle.match_seq.specs.Search.{all_bounded}
use Rattle.match_seq.proofs.constructs.Constructs.all_bounded.Given as goal

abbrev pub invariant-loop-at : goal.invariant-loop-at
invariant-loop-at l = all_bounded l.self (matching_of l.how) (trees (drop l.at l.patterns)) ≡ all_bounded l.self (matching_of l.how) (trees (drop l.from l.patterns))
