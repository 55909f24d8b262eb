use Rattle.std.proofs.Common.{◌≡◌, ◌++◌, drop}
use Rattle.rule_store.proofs.rules.copies_of.Given as goal

abbrev pub invariant-loop-rule : goal.invariant-loop-rule
invariant-loop-rule l = l.copies.items ++ drop l.rule-index l.rules ≡ l.rules
