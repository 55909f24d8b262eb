use Rattle.std.proofs.Common.{◌≡◌, drop}
use Rattle.semantics.specs.Replace as replace
use Rattle.builtin_names.specs.Named.{names_in}
use Rattle.machine_rules.proofs.RuleSets.{behind}
use Rattle.machine_rules.proofs.rule_sets.rules_in.Given as goal

abbrev pub invariant-loop-item : goal.invariant-loop-item
invariant-loop-item l = behind l.rules (replace.rules_in (names_in l.names) (drop l.item-index l.items)) ≡ replace.rules_in (names_in l.names) l.items
