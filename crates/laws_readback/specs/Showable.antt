-- Which expressions are read again as they are shown.
--     has_token            the digits of the integer are a number token: all integers of 128 bits but the least
--     IsShowable           each integer of the expression is such a one, and each symbol's text is a name that is read as this symbol
--     HavePlainHeads       no head in the expression is a negative integer
use Rattle.std.specs.Prelude.{suc, ◌^◌, ℤ, pos, negsuc, Bool, ltb, IsTrue}
use Rattle.expr_tree.specs.Tree.{Tree, Trees, integer, string, symbol, normal, nil, cons}
use Rattle.script_text.specs.Spelling.{Spelling}
use Rattle.script_text.specs.FullForm.{IsSpelled}

abbrev pub has_token : ℤ → Bool
has_token (pos n) = ltb n (2 ^ 127)
has_token (negsuc n) = ltb (suc n) (2 ^ 127)

abbrev mutual
  pub IsShowable : Spelling → Tree → Type 0
  IsShowable spelling (integer n) = IsTrue (has_token n)
  IsShowable spelling (string t) = Unit {0}
  IsShowable spelling (symbol s) = IsSpelled spelling s
  IsShowable spelling (normal h es) = IsShowable spelling h × AreShowable spelling es

  pub AreShowable : Spelling → Trees → Type 0
  AreShowable spelling nil = Unit {0}
  AreShowable spelling (cons e es) = IsShowable spelling e × AreShowable spelling es

-- a full form has no parentheses, so a minus sign in front of a head would be that of the whole
abbrev pub IsPlainHead : Tree → Type 0
IsPlainHead (integer (negsuc n)) = ⊥
IsPlainHead _ = Unit {0}

abbrev mutual
  pub HavePlainHeads : Tree → Type 0
  HavePlainHeads (normal h es) = IsPlainHead h × HavePlainHeads h × AllHavePlainHeads es
  HavePlainHeads _ = Unit {0}

  pub AllHavePlainHeads : Trees → Type 0
  AllHavePlainHeads nil = Unit {0}
  AllHavePlainHeads (cons e es) = HavePlainHeads e × AllHavePlainHeads es
