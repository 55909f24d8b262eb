use Rattle.std.proofs.Common.{rules, ◌≡◌, ◌∙◌, ap}
use Rattle.rule_store.proofs.Marked.{keyed}
use Rattle.semantics.specs.Rule.{key_of}
use Rattle.rule_store.specs.Keys.{numbers_of}
use Rattle.builtin_names.specs.Named.{names_in}
use Rattle.rule_store.proofs.rule.Rule.key.Goals as goal

pub returns-then-are : goal.returns-then-are
returns-then-are c =
    let same : c.self.inside.marks ≡ c.of.result = search rules in
    let counted : numbers_of c.self.inside.key ≡ key_of (names_in c.args.names.now) (record { left = c.self.inside.left; right = c.self.inside.right }) =
    keyed (names_in c.args.names.now) (record { left = c.self.inside.left; right = c.self.inside.right }) c.self.inside.key c.self.inside.marks c.self.invariant (same ∙ c.of.ensures)
    in
    counted ∙ ap (key_of (names_in c.args.names.now)) c.self.view_is
