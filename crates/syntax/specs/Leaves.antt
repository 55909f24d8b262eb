-- What the tokens of a cell stand for.
--     unescaped            the bytes that a string token writes
--     number_leaf ..       the expressions of a number, a string, a name, a blank and a slot
--     Lexeme, lexemes      a token with its text, and whether it begins a line; those of a cell
use Rattle.std.specs.Prelude.{ℕ, pos, ◌+◌, ◌-◌, ◌==◌, Bool, true, false, cond, List, [], ◌∷◌, take, drop, codes}
use Rattle.expr_tree.specs.Tree.{Tree, integer, string, symbol}
use Rattle.semantics.specs.declared.builtin.Builtin.{Builtin}
use Rattle.semantics.specs.Names.{Names, make}
use Rattle.script_text.specs.Bytes.{in_name, run, number_after, begins_with}
use Rattle.script_text.specs.Spelling.{spelled}
use Rattle.script_text.specs.Reader.{symbol_of}
use Rattle.syntax.specs.Tokens.{Kind, Token, token_text, lex}

-- what a backslash and `n`, `t` or another byte stand for
abbrev pub unescaped_byte : Bool → Bool → ℕ → ℕ
unescaped_byte true tab c = 10
unescaped_byte false true c = 9
unescaped_byte false false c = c

-- up to the last quote; whether a backslash stands in front
abbrev pub unescaped : Bool → List ℕ → List ℕ
unescaped escape [] = []
unescaped true (c ∷ cs) = unescaped_byte (c == 110) (c == 116) c ∷ unescaped false cs
unescaped false (c ∷ cs) = elim (c == 34) [ true ↦ [] | false ↦ elim (c == 92) [ true ↦ unescaped true cs | false ↦ c ∷ unescaped false cs ] ]

-- a number, or 1 where there is none
abbrev pub number_or_one : List ℕ → ℕ
number_or_one [] = 1
number_or_one (d ∷ ds) = number_after 0 (d ∷ ds)

abbrev pub number_leaf : List ℕ → Tree
number_leaf t = integer (pos (number_after 0 t))

abbrev pub string_leaf : List ℕ → Tree
string_leaf t = string (unescaped false (drop 1 t))

-- by the number of `_`
abbrev pub blank_row : ℕ → Builtin
blank_row n = cond (n == 1) Builtin.Blank (cond (n == 2) Builtin.BlankSequence Builtin.BlankNullSequence)

-- `find` gives the base of a text
module _ (names : Names) (find : List ℕ → ℕ) where
  abbrev pub name_leaf : List ℕ → Tree
  name_leaf t = symbol (symbol_of find (spelled t))

  -- behind the `_`
  abbrev pub blank_head : List ℕ → List Tree
  blank_head [] = []
  blank_head (c ∷ cs) = name_leaf (c ∷ cs) ∷ []

  -- in front of the `_`
  abbrev pub named : List ℕ → Tree → Tree
  named [] e = e
  named (c ∷ cs) e = make names Builtin.Pattern (name_leaf (c ∷ cs) ∷ e ∷ [])

  abbrev pub blank_leaf : List ℕ → Tree
  blank_leaf t =
      let n = run in_name t in
      let marks = run (λ c. c == 95) (drop n t) in
      named (take n t) (make names (blank_row marks) (blank_head (drop (n + marks) t)))

  abbrev pub slot_leaf : List ℕ → Tree
  slot_leaf t =
      elim (begins_with (codes "##") t) [
        | true ↦ make names Builtin.SlotSequence (integer (pos (number_or_one (drop 2 t))) ∷ [])
        | false ↦ make names Builtin.Slot (integer (pos (number_or_one (drop 1 t))) ∷ [])
      ]

-- `after_line`: a line feed, in a comment or not, stands between the token before and this one
pub record Lexeme : Type 0 where
  pub kind : Kind
  pub text : List ℕ
  pub after_line : Bool

abbrev pub has_feed : List ℕ → Bool
has_feed [] = false
has_feed (c ∷ cs) = elim (c == 10) [ true ↦ true | false ↦ has_feed cs ]

-- of the tokens behind the place `at`, where the one before ends
abbrev pub lexemes_after : List ℕ → ℕ → List Token → List Lexeme
lexemes_after text at [] = []
lexemes_after text at (t ∷ ts) =
    record { kind = t.kind; text = token_text text t; after_line = has_feed (take (t.from - at) (drop at text)) } ∷ lexemes_after text t.to ts

abbrev pub lexemes : List ℕ → List Lexeme
lexemes text = lexemes_after text 0 (lex text).tokens
