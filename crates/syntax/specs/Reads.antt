-- What a cell is read as, and where it stops being readable. `names` has the built-in rows, and `find` gives the base of a text.
--     AreRead              the lexemes are one phrase at level 2
--     Reads                the cell is read as the expression
--     BeginsCell           some lexemes that are read begin with these
--     IsFirstBad           the place of the first lexeme that no reading continues; the end counts as one
--     IsOffset             the syntax offset of a cell that has no reading
use Rattle.std.specs.Prelude.{◌≡◌, ℕ, suc, ◌<◌, ◌≤◌, List, [], ◌∷◌, ◌++◌, length, take, drop, Option, Some, None}
use Rattle.expr_tree.specs.Tree.{Tree}
use Rattle.semantics.specs.declared.builtin.Builtin.{Builtin}
use Rattle.semantics.specs.Names.{Names, name}
use Rattle.syntax.specs.Tokens.{Token, LexFault, lex, place_of_fault}
use Rattle.syntax.specs.Leaves.{Lexeme, lexemes}
use Rattle.syntax.specs.Terminals.{Phrase, terminals}
use Rattle.syntax.specs.Phrases.{written}
use Rattle.syntax.specs.Grammar.{WholeOf, nesting_limit}

-- where the first token that is left begins, or where there is none the fault or the end of the text
abbrev pub place_of : ℕ → Option LexFault → List Token → ℕ
place_of end fault (t ∷ ts) = t.from
place_of end (Some fault) [] = place_of_fault fault
place_of end None [] = end

module _ (names : Names) (find : List ℕ → ℕ) where
  abbrev pub AreRead : List Lexeme → Tree → Type 0
  AreRead ls e = (x : Phrase) × WholeOf Phrase Tree (List Tree) (written names) nesting_limit (terminals names find ls) x × (x.expr ≡ e)

  -- no token at all is Null
  abbrev pub LexemesRead : List Lexeme → Tree → Type 0
  LexemesRead [] e = e ≡ name names Builtin.Null
  LexemesRead (l ∷ ls) e = AreRead (l ∷ ls) e

  pub record Reads (cell : List ℕ) (e : Tree) : Type 0 where
    pub no_fault : (lex cell).fault ≡ None
    pub read : LexemesRead (lexemes cell) e

  abbrev pub BeginsCell : List Lexeme → Type 0
  BeginsCell ls = (rest : List Lexeme) × (e : Tree) × LexemesRead (ls ++ rest) e

  pub record IsFirstBad (ls : List Lexeme) (k : ℕ) : Type 0 where
    pub within : k ≤ length ls
    pub before : BeginsCell (take k ls)
    pub bad : k < length ls → ¬ BeginsCell (take (suc k) ls)

  pub record IsOffset (cell : List ℕ) (place : ℕ) : Type 0 where
    pub k : ℕ
    pub first_bad : IsFirstBad (lexemes cell) k
    pub unread : (e : Tree) → ¬ Reads cell e
    pub here : place ≡ place_of (length cell) (lex cell).fault (drop k (lex cell).tokens)
