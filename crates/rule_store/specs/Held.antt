-- Rules as the program keeps them.
--     rules_in              the rules, shared or not
use Rattle.std.specs.Prelude.{List}
use Rattle.semantics.specs.Rule.{Rule}
use Rattle.rule_store.specs.declared.rules.Held.{Held}
use Rattle.rule_store.specs.declared.rules.Held.TheVariants.{Own, Shared}

abbrev pub rules_in : Held → List Rule
rules_in (Own rules) = rules.items
rules_in (Shared rules) = rules.value.items
