use Rattle.std.proofs.Common.{◌≡◌, drop}
use Rattle.expr_tree.specs.Tree.{Tree}
use Rattle.semantics.specs.Rule.{has_left}
use Rattle.machine_changes.specs.Larger.{IsLarge}
use Rattle.machine_changes.proofs.large.all_small.Given as goal

abbrev pub invariant-loop-rule : goal.invariant-loop-rule
invariant-loop-rule l = (t : Tree) → IsLarge t → has_left t (drop l.rule-index l.rules) ≡ has_left t l.rules
