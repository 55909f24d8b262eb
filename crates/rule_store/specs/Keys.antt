-- The numbers of a key.
--     numbers_of            these as a list
--     is_counted            which subexpressions head[..] a number counts
use Rattle.std.specs.Prelude.{◌≡◌, ℕ, List, [], ◌∷◌, Bool}
use Rattle.expr_tree.specs.Tree.{Tree, Trees}
use Rattle.semantics.specs.declared.builtin.Builtin.{Builtin}
use Rattle.semantics.specs.Names.{Names}
use Rattle.semantics.specs.Rule.{Rule, key_of, is_untyped, is_typed, is_run, is_guarded}
use Rattle.rule_store.specs.declared.key.Key.{Key}
use Rattle.rule_store.specs.declared.key.Counted.{Counted}
use Rattle.rule_store.specs.declared.key.Counted.TheVariants.{NullSequences, Sequences, Untyped, Typed, Guards}
use Rattle.rule_store.specs.declared.marks.Marks.{Marks}
use Rattle.rule_store.specs.Marks.{marked}

abbrev pub numbers_of : Key → List ℕ
numbers_of key = key.null_sequences ∷ key.sequences ∷ key.untyped ∷ key.typed ∷ key.unguarded ∷ []

abbrev pub is_counted : Counted → Names → Tree → Trees → Bool
is_counted NullSequences names = is_run names Builtin.BlankNullSequence
is_counted Sequences names = is_run names Builtin.BlankSequence
is_counted Untyped names = is_untyped names
is_counted Typed names = is_typed names
is_counted Guards names = is_guarded names

-- a key that was counted with these marks
abbrev pub IsKeyed : Rule → Key → Marks → Type 0
IsKeyed rule key marks = numbers_of key ≡ key_of (marked marks) rule
