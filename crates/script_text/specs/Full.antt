-- The full form of an expression: every head written out.
--     escaped, all_escaped, quoted      a byte and the bytes of a string, and the string in its quotes
--     full      the full form
--     full_items, full_others      elements with a comma and a space between them, and in front of each
use Rattle.std.specs.Prelude.{ℕ, ◌==◌, Bool, true, false, List, [], ◌∷◌, ◌++◌, codes}
use Rattle.std.specs.Fmt.{signed_decimal}
use Rattle.expr_tree.specs.Tree.{Tree, Trees, integer, string, symbol, normal, nil, cons}
use Rattle.script_text.specs.Spelling.{Spelling, symbol_text}

-- a quote, a backslash, a line feed and a tab are written with a backslash
abbrev pub escaped_by : Bool → Bool → Bool → Bool → ℕ → List ℕ
escaped_by true backslash feed tab c = codes "\\\""
escaped_by false true feed tab c = codes "\\\\"
escaped_by false false true tab c = codes "\\n"
escaped_by false false false true c = codes "\\t"
escaped_by false false false false c = c ∷ []

-- a byte within a string
abbrev pub escaped : ℕ → List ℕ
escaped c = escaped_by (c == 34) (c == 92) (c == 10) (c == 9) c

abbrev pub all_escaped : List ℕ → List ℕ
all_escaped [] = []
all_escaped (c ∷ cs) = escaped c ++ all_escaped cs

abbrev pub quoted : List ℕ → List ℕ
quoted t = 34 ∷ all_escaped t ++ (34 ∷ [])

abbrev mutual
  pub full : Spelling → Tree → List ℕ
  full spelling (integer n) = signed_decimal n
  full spelling (string t) = quoted t
  full spelling (symbol s) = symbol_text spelling s
  full spelling (normal h es) = full spelling h ++ (91 ∷ full_items spelling es ++ (93 ∷ []))

  pub full_items : Spelling → Trees → List ℕ
  full_items spelling nil = []
  full_items spelling (cons e es) = full spelling e ++ full_others spelling es

  pub full_others : Spelling → Trees → List ℕ
  full_others spelling nil = []
  full_others spelling (cons e es) = 44 ∷ 32 ∷ full spelling e ++ full_others spelling es
