-- How many subexpressions a number of the key counts: no more than there are atoms.
use Rattle.std.proofs.Common.{◌≡◌, refl, ◌≤◌, Bool, true, false, arith}
use Rattle.expr_tree.specs.Tree.{Tree, integer, string, symbol, normal, Trees, nil, cons, size, sizes}
use Rattle.expr_tree.proofs.Callers.{tree_steps}
use Rattle.semantics.specs.Names.{Names}
use Rattle.semantics.specs.Rule.{occurrences, occurrences_in}
use Rattle.rule_store.specs.declared.key.Counted.{Counted}
use Rattle.rule_store.specs.declared.key.Counted.TheVariants.{NullSequences, Sequences, Untyped, Typed, Guards}
use Rattle.rule_store.specs.Keys.{is_counted}

not_nested : (what : Counted) (names : Names) (h : Tree) (fs es : Trees) → is_counted what names (normal h fs) es ≡ false
not_nested NullSequences names h fs es = refl
not_nested Sequences names h fs es = refl
not_nested Untyped names h fs es = refl
not_nested Typed names h fs es = refl
not_nested Guards names h fs es = refl

one_at_most : (b : Bool) → elim b [ true ↦ 1 | false ↦ 0 ] ≤ 1
one_at_most true = omega arith
one_at_most false = omega arith

mutual
  pub no_more_than : (what : Counted) (names : Names) (t : Tree) → occurrences (is_counted what names) t ≤ size t
  no_more_than what names (integer n) = omega arith
  no_more_than what names (string s) = omega arith
  no_more_than what names (symbol s) = omega arith
  no_more_than what names (normal (integer n) es) = omega (arith, one_at_most (is_counted what names (integer n) es), no_more_in what names es)
  no_more_than what names (normal (string s) es) = omega (arith, one_at_most (is_counted what names (string s) es), no_more_in what names es)
  no_more_than what names (normal (symbol s) es) = omega (arith, one_at_most (is_counted what names (symbol s) es), no_more_in what names es)
  no_more_than what names (normal (normal h fs) es) =
      rw (not_nested what names h fs es) (omega (arith, no_more_than what names (normal h fs), no_more_in what names es))

  pub no_more_in : (what : Counted) (names : Names) (ts : Trees) → occurrences_in (is_counted what names) ts ≤ sizes ts
  no_more_in what names nil = omega arith
  no_more_in what names (cons t ts) = omega (arith, no_more_than what names t, no_more_in what names ts)

pub ruleset count_steps = (tree_steps, no_more_than, no_more_in)
