use Rattle.std.proofs.Common.{◌≡◌, ◌++◌, drop}
use Rattle.semantics.specs.Rule.{remove}
use Rattle.rule_store.proofs.rules.Rules.without.Given as goal

abbrev pub invariant-loop-rule : goal.invariant-loop-rule
invariant-loop-rule l = l.kept.items ++ remove l.left (drop l.rule-index l.rules) ≡ remove l.left l.rules
