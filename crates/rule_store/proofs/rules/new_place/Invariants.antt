use Rattle.builtin_names.specs.Named.{names_in}
use Rattle.rule_store.proofs.Places.{IsPassing}
use Rattle.rule_store.proofs.rules.new_place.Given as goal

abbrev pub invariant-loop-at : goal.invariant-loop-at
invariant-loop-at l = IsPassing (names_in l.names) l.new l.rules l.at
