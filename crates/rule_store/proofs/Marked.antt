-- A key depends on the marks of the names alone.
use Rattle.std.proofs.Common.{◌≡◌, ◌∙◌, ap}
use Rattle.semantics.specs.Names.{Names}
use Rattle.semantics.specs.Rule.{Rule, key_of}
use Rattle.rule_store.specs.declared.key.Key.{Key}
use Rattle.rule_store.specs.declared.marks.Marks.{Marks}
use Rattle.rule_store.specs.Marks.{marks_of, marked}
use Rattle.rule_store.specs.Keys.{numbers_of, IsKeyed}

pub keyed : (names : Names) (rule : Rule) (key : Key) (marks : Marks) → IsKeyed rule key marks → marks ≡ marks_of names → numbers_of key ≡ key_of names rule
keyed names rule key marks counted e = counted ∙ ap (λ m. key_of (marked m) rule) e
