use Rattle.std.proofs.Common.{◌≡◌}
use Rattle.expr_tree.specs.Tree.{Tree}
use Rattle.semantics.specs.Program.{Prog}
use Rattle.builtin_names.specs.Named.{names_in}
use Rattle.rule_frames.specs.Reading.{Shows}
use Rattle.machine_rules.specs.Walks.{place_left}
use Rattle.machine_rules.specs.Weights.{weight_of}
use Rattle.machine_rules.proofs.walk.Walk.go_over.Given as goal

abbrev pub invariant-loop-walked : goal.invariant-loop-walked
invariant-loop-walked l = record {
  goes : (k : Tree → Prog) → Shows (names_in l.scene.names.now) l.defs l.scene.limits (place_left (names_in l.scene.names.now) l.initial.self k) (place_left (names_in l.scene.names.now) l.self k);
  rules_stay : l.self.rules ≡ l.initial.self.rules;
}

abbrev pub decreases-loop-walked : goal.decreases-loop-walked
decreases-loop-walked l = weight_of l.self
