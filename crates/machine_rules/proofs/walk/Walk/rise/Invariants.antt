use Rattle.std.proofs.Common.{◌≡◌, ◌≤◌, reverse, length}
use Rattle.expr_tree.specs.Tree.{Tree}
use Rattle.semantics.specs.Names.{Names}
use Rattle.semantics.specs.Program.{Prog}
use Rattle.machine_rules.specs.Walks.{upward}
use Rattle.machine_rules.specs.Weights.{levels_weight}
use Rattle.machine_rules.proofs.walk.Walk.rise.Given as goal

abbrev pub invariant-loop-level : goal.invariant-loop-level
invariant-loop-level l = record {
  goes : (names : Names) (k : Tree → Prog) → upward names l.initial.self k l.initial.done ≡ upward names l.self k l.done;
  weighs : levels_weight (reverse l.self.levels) ≤ levels_weight (reverse l.initial.self.levels);
  rules_stay : l.self.rules ≡ l.initial.self.rules;
}

abbrev pub decreases-loop-level : goal.decreases-loop-level
decreases-loop-level l = length l.self.levels
