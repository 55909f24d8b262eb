use Rattle.std.proofs.Common.{◌≡◌, drop}
use Rattle.journal.specs.Closure.{symbols_of_rules}
use Rattle.dist_bundle.specs.Search.{added_all}
use Rattle.dist_bundle.proofs.search.Search.add_rules.Given as goal

abbrev pub invariant-loop-rule : goal.invariant-loop-rule
invariant-loop-rule l = added_all (symbols_of_rules (drop l.rule-index l.rules)) l.self ≡ added_all (symbols_of_rules l.rules) l.fn.self
