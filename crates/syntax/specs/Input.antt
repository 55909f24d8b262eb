-- The input form of an expression: operators, with parentheses round an operand whose level is below what its place asks.
--     form_of              what head[elements] prints as
--     form_level           its level
--     Shown, at_level      a level and a text without parentheses; the text where a level is asked
--     shown, text, input   what is shown of an expression; its text at a level; at level 2
use Rattle.std.specs.Prelude.{ℕ, ◌==◌, leb, ltb, ◌&&◌, not, Bool, true, false, cond, ℤ, pos, negsuc, List, [], ◌∷◌, ◌++◌, map, codes, drop}
use Rattle.std.specs.Fmt.{signed_decimal}
use Rattle.expr_tree.specs.declared.sym.Sym.{Sym}
use Rattle.expr_tree.specs.Tree.{Tree, Trees, integer, string, symbol, normal, nil, cons, count}
use Rattle.script_text.specs.Bytes.{joined, each_after, begins_with}
use Rattle.script_text.specs.Spelling.{Spelling, symbol_text}
use Rattle.script_text.specs.Full.{quoted}
use Rattle.syntax.specs.Shapes.{Shape, Form, Mark, Pair, Chain, pair_sign, pair_left, pair_right, pair_level, chain_sign, chain_part, chain_level, mark_sign}
use Rattle.syntax.specs.Shapes as s

-- ---- which form

abbrev pub unless_brackets : Bool → Form → Form
unless_brackets true f = f
unless_brackets false f = s.Brackets

abbrev pub is_symbol : Tree → Bool
is_symbol (symbol x) = true
is_symbol _ = false

abbrev pub is_integer : Tree → Bool
is_integer (integer n) = true
is_integer _ = false

abbrev pub is_minus_one : Tree → Bool
is_minus_one (integer (negsuc n)) = n == 0
is_minus_one _ = false

-- n from 1 to 999,999,999
abbrev pub is_slot_number : Tree → Bool
is_slot_number (integer (pos n)) = leb 1 n && leb n 999999999
is_slot_number _ = false

-- no element, or one symbol
abbrev pub symbol_at_most : Trees → Bool
symbol_at_most nil = true
symbol_at_most (cons e nil) = is_symbol e
symbol_at_most _ = false

abbrev pub slot_number : Trees → Bool
slot_number (cons e nil) = is_slot_number e
slot_number _ = false

-- the first element is -1 and the second no integer
abbrev pub product_form : Trees → Form
product_form (cons a (cons b es)) = cond (is_minus_one a && not (is_integer b)) s.Negative s.Product
product_form _ = s.Product

abbrev pub blank_shape : Shape → Bool
blank_shape (s.Blank m) = true
blank_shape _ = false

-- the shape of each symbol
module _ (shape : Sym → Shape) where
  abbrev pub shape_at : Tree → Shape
  shape_at (symbol x) = shape x
  shape_at _ = s.Other

  abbrev pub is_blank : Tree → Bool
  is_blank (normal h es) = blank_shape (shape_at h) && symbol_at_most es
  is_blank _ = false

  -- a symbol and a pattern
  abbrev pub named_form : Trees → Form
  named_form (cons x (cons p nil)) = unless_brackets (is_symbol x) (cond (is_blank p) (s.Marked s.Nothing) (s.Paired s.Naming))
  named_form _ = s.Brackets

  abbrev pub fitted : Shape → Trees → Form
  fitted s.List es = s.Braces
  fitted s.Named es = named_form es
  fitted s.Times es = unless_brackets (leb 2 (count es)) (product_form es)
  fitted s.Plus es = unless_brackets (leb 2 (count es)) s.Sum
  fitted s.Not es = unless_brackets (count es == 1) s.Negation
  fitted s.Function es = unless_brackets (count es == 1) s.Ampersand
  fitted s.Other es = s.Brackets
  fitted (s.Blank m) es = unless_brackets (symbol_at_most es) (s.Marked m)
  fitted (s.Slot m) es = unless_brackets (slot_number es) (s.Marked m)
  fitted (s.Pairs p) es = unless_brackets (count es == 2) (s.Paired p)
  fitted (s.Chains c) es = unless_brackets (leb 2 (count es)) (s.Chained c)

  abbrev pub form_of : Tree → Trees → Form
  form_of h es = fitted (shape_at h) es

abbrev pub form_level : Form → ℕ
form_level s.Braces = 27
form_level s.Product = 18
form_level s.Negative = 18
form_level s.Sum = 17
form_level s.Negation = 14
form_level s.Ampersand = 5
form_level s.Brackets = 25
form_level (s.Marked m) = 27
form_level (s.Paired p) = pair_level p
form_level (s.Chained c) = chain_level c

-- ---- the text of a form

pub record Shown : Type 0 where
  pub level : ℕ
  pub text : List ℕ

abbrev pub at_level : ℕ → Shown → List ℕ
at_level p e = cond (ltb e.level p) (40 ∷ e.text ++ (41 ∷ [])) e.text

abbrev pub all_at : ℕ → List Shown → List (List ℕ)
all_at p es = map (at_level p) es

abbrev pub together : List ℕ → ℕ → List Shown → List ℕ
together between p es = joined between (all_at p es)

abbrev pub pair_text : Pair → List Shown → List ℕ
pair_text p (a ∷ b ∷ []) = at_level (pair_left p) a ++ pair_sign p ++ at_level (pair_right p) b
pair_text p _ = []

-- a text after the first one of a sum
abbrev pub term_after : List ℕ → List ℕ
term_after t = cond (begins_with (codes "-") t) (codes " - " ++ drop 1 t) (codes " + " ++ t)

abbrev pub terms_after : List Shown → List ℕ
terms_after [] = []
terms_after (e ∷ es) = term_after (at_level 18 e) ++ terms_after es

abbrev pub sum_text : List Shown → List ℕ
sum_text [] = []
sum_text (a ∷ es) = at_level 18 a ++ terms_after es

-- the factors behind -1
abbrev pub factors : List Shown → List ℕ
factors [] = []
factors (b ∷ es) = codes "-" ++ at_level 20 b ++ each_after (codes "*") (all_at 19 es)

abbrev pub negative_text : List Shown → List ℕ
negative_text [] = []
negative_text (a ∷ es) = factors es

abbrev pub form_text : Form → Shown → List Shown → List ℕ
form_text s.Braces head items = codes "{" ++ together (codes ", ") 2 items ++ codes "}"
form_text s.Product head items = together (codes "*") 19 items
form_text s.Negative head items = negative_text items
form_text s.Sum head items = sum_text items
form_text s.Negation head items = codes "!" ++ together [] 14 items
form_text s.Ampersand head items = together [] 6 items ++ codes " &"
form_text s.Brackets head items = at_level 25 head ++ codes "[" ++ together (codes ", ") 2 items ++ codes "]"
form_text (s.Marked m) head items = mark_sign m ++ together [] 27 items
form_text (s.Paired p) head items = pair_text p items
form_text (s.Chained c) head items = together (chain_sign c) (chain_part c) items

abbrev pub shown_as : Form → Shown → List Shown → Shown
shown_as f head items = record { level = form_level f; text = form_text f head items }

abbrev pub integer_level : ℤ → ℕ
integer_level (pos n) = 27
integer_level (negsuc n) = 20

module _ (spelling : Spelling) (shape : Sym → Shape) where
  abbrev mutual
    pub shown : Tree → Shown
    shown (integer n) = record { level = integer_level n; text = signed_decimal n }
    shown (string t) = record { level = 27; text = quoted t }
    shown (symbol x) = record { level = 27; text = symbol_text spelling x }
    shown (normal h es) = shown_as (form_of shape h es) (shown h) (all_shown es)

    pub all_shown : Trees → List Shown
    all_shown nil = []
    all_shown (cons e es) = shown e ∷ all_shown es

  -- the text of e where an operand of level p is asked for
  abbrev pub text : ℕ → Tree → List ℕ
  text p e = at_level p (shown e)

  abbrev pub input : Tree → List ℕ
  input e = text 2 e
