use Rattle.std.proofs.Common.{◌∙◌, sym}
use Rattle.builtin_names.specs.Named.{names_in}
use Rattle.rule_store.proofs.Places.{seeking_found}
use Rattle.rule_store.proofs.rules.replaced_place.Goals as goal

pub returns-then-replaces : goal.returns-then-replaces
returns-then-replaces c =
    seeking_found (names_in c.args.names.now) c.args.new.now c.args.rules.now c.loop-at.at c.index-rules-at.result c.loop-at-test.true c.index-rules-at.is
    (sym c.replaces.ensures ∙ c.if-replaces.true) c.loop-at.invariant
