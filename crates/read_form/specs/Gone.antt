-- How far a reader has gone over a cell.
--     Gone                 the machine has gone over the first i tokens, the last of which ends at the place
--     HasGone              it has, wherever that one ends
use Rattle.std.specs.Prelude.{◌≡◌, ℕ, List, ◌++◌, length, drop, Some}
use Rattle.semantics.specs.Names.{Names}
use Rattle.syntax.specs.Tokens.{lex}
use Rattle.syntax.specs.Leaves.{Lexeme, lexemes, lexemes_after}
use Rattle.syntax.specs.Terminals.{terminals}
use Rattle.phrase_form.specs.States.{State}
use Rattle.phrase_form.specs.Machine.{start_at, run_at}

module _ (names : Names) (find : List ℕ → ℕ) where
  pub record Gone (cell : List ℕ) (at i : ℕ) (s : State names) : Type 0 where
    pub passed : List Lexeme
    pub all : lexemes cell ≡ passed ++ lexemes_after cell at (drop i (lex cell).tokens)
    pub many : length passed ≡ i
    pub runs : run_at names (terminals names find passed) (start_at names) ≡ Some s

  abbrev pub HasGone : List ℕ → ℕ → State names → Type 0
  HasGone cell i s = (at : ℕ) × Gone cell at i s
