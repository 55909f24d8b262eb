-- Which texts are full forms, and where a text stops being one.
--     IsSpelled            the symbol's text is a name that is read as this symbol
--     IsWritten            each symbol of the expression is, and each integer has 128 bits
--     IsFullFormOf         the text is the full form of the expression
--     IsFullForm           the text is a full form, by some spelling of the bases
--     BeginsFullForm       some full form begins with the text
--     IsFirstBad           the place of the first byte that no full form continues
use Rattle.std.specs.Prelude.{◌≡◌, ℕ, ◌+◌, ◌≤◌, ◌<◌, List, ◌++◌, length, take, IsTrue}
use Rattle.expr_tree.specs.declared.sym.Sym.{Sym}
use Rattle.expr_tree.specs.Tree.{Tree, Trees, integer, string, symbol, normal, nil, cons}
use Rattle.expr_tree.specs.Limits.{in_range}
use Rattle.script_text.specs.Bytes.{is_name}
use Rattle.script_text.specs.Spelling.{Spelling, spelled, symbol_text}
use Rattle.script_text.specs.Full.{full}

pub record IsSpelled (spelling : Spelling) (s : Sym) : Type 0 where
  pub is_name : IsTrue (is_name (symbol_text spelling s))
  pub read_back : spelled (symbol_text spelling s) ≡ record { base = spelling s.base; number = s.number }

abbrev mutual
  pub IsWritten : Spelling → Tree → Type 0
  IsWritten spelling (integer n) = IsTrue (in_range n)
  IsWritten spelling (string t) = Unit {0}
  IsWritten spelling (symbol s) = IsSpelled spelling s
  IsWritten spelling (normal h es) = IsWritten spelling h × AreWritten spelling es

  pub AreWritten : Spelling → Trees → Type 0
  AreWritten spelling nil = Unit {0}
  AreWritten spelling (cons e es) = IsWritten spelling e × AreWritten spelling es

pub record IsFullFormOf (spelling : Spelling) (e : Tree) (t : List ℕ) : Type 0 where
  pub written : IsWritten spelling e
  pub text : t ≡ full spelling e

abbrev pub IsFullForm : List ℕ → Type 0
IsFullForm t = (spelling : Spelling) × (e : Tree) × IsFullFormOf spelling e t

abbrev pub BeginsFullForm : List ℕ → Type 0
BeginsFullForm t = (rest : List ℕ) × IsFullForm (t ++ rest)

pub record IsFirstBad (t : List ℕ) (place : ℕ) : Type 0 where
  pub within : place ≤ length t
  pub good : BeginsFullForm (take place t)
  pub bad : place < length t → ¬ BeginsFullForm (take (place + 1) t)
  pub unfinished : place ≡ length t → ¬ IsFullForm t
