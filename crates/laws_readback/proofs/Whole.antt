-- The text of a whole expression is a cell that is read as it.
use Rattle.std.proofs.Common.{◌≡◌, refl, sym, subst, ℕ, ◌≤◌, List, [], ◌∷◌, arith, le_refl}
use Rattle.expr_tree.specs.Tree.{Tree}
use Rattle.semantics.specs.Names.{Names}
use Rattle.syntax.specs.Leaves.{Lexeme}
use Rattle.syntax.specs.Terminals.{Phrase, terminals}
use Rattle.syntax.specs.Phrases.{written}
use Rattle.syntax.specs.Grammar.{WholeOf, plain, nesting_limit}
use Rattle.syntax.specs.Reads.{Reads, LexemesRead}
use Rattle.syntax.proofs.Reader.{run, finished, start_state, not_read}
use Rattle.laws_readback.proofs.Pieces.{words, IsMadeOf, made_of}
use Rattle.laws_readback.proofs.Phrases.{Operand, phrase}

module _ (names : Names) (find : List ℕ → ℕ) where
  abbrev Whole : List Lexeme → Phrase → Type 0
  Whole ls x = WholeOf Phrase Tree (List Tree) (written names) nesting_limit (terminals names find ls) x

  none_whole : (x : Phrase) → Whole [] x → ⊥
  unfolding run finished
  none_whole x w = not_read Phrase Tree (List Tree) (written names) [] (start_state Phrase Tree (List Tree) (written names)) x refl refl w

  as_read : (ls : List Lexeme) (x : Phrase) → Whole ls x → LexemesRead names find ls x.expr
  as_read [] x w = absurd (none_whole x w)
  as_read (l ∷ ls) x w = (x, w, refl)

  whole : {e : Tree} {t : List ℕ} {depth : ℕ} → (o : Operand names find e 2 t depth) → depth ≤ 512 → Whole (words o.pieces) (phrase names find e o.kind)
  unfolding nesting_limit
  whole o h = plain (o.reads nesting_limit 2 (omega (arith, h)) (le_refl 2))

  pub reads_as : {e : Tree} {t : List ℕ} {depth : ℕ} → Operand names find e 2 t depth → depth ≤ 512 → Reads names find t e
  reads_as {e} {t} o h =
      let made = subst (λ (u : List ℕ). IsMadeOf u o.pieces) o.spelled (made_of o.pieces (o.cut [] tt)) in
      record { no_fault = made.no_fault; read = subst (λ (ls : List Lexeme). LexemesRead names find ls e) (sym made.cut) (as_read (words o.pieces) (phrase names find e o.kind) (whole o h)) }

  -- a word stands in it
  pub has_word : {e : Tree} {t : List ℕ} {depth : ℕ} → (o : Operand names find e 2 t depth) → depth ≤ 512 → words o.pieces ≡ [] → ⊥
  has_word {e} o h n = none_whole (phrase names find e o.kind) (subst (λ (ls : List Lexeme). Whole ls (phrase names find e o.kind)) n (whole o h))
