use Rattle.std.proofs.Common.{◌≡◌, ◌+◌, ◌≤◌, drop}
use Rattle.expr_tree.specs.Tree.{trees}
use Rattle.match_seq.specs.Search.{fewest}
use Rattle.match_seq.proofs.constructs.Constructs.fewest.Given as goal

abbrev pub invariant-loop-at : goal.invariant-loop-at
invariant-loop-at l = record {
  counted : l.count + fewest l.self (trees (drop l.at l.patterns)) ≡ fewest l.self (trees (drop l.from l.patterns));
  small : l.count ≤ l.at;
}
