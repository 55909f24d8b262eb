-- Names that are not in a list.
use Rattle.std.proofs.Common.{◌≡◌, ◌≢◌, refl, sym, ap, ◌∙◌, Bool, true, false, ℕ, List, [], ◌∷◌}
use Rattle.std.specs.Prelude.{◌&&◌, ◌||◌, codes, Option, Some, None, Decides}
use Rattle.std.specs.List.{list_any}
use Rattle.std.specs.Ordering.{is_eq}
use Rattle.std.specs.Str.{bytes_eq}
use Rattle.std.proofs.lemmas.Map.Text.{is_eq-slice_cmp}
use Rattle.std.proofs.lemmas.Slice.Eq.{bytes_eq-Decides}
use Rattle.expr_tree.specs.Order.{text_cmp}
use Rattle.semantics.specs.declared.builtin.Builtin.{Builtin}
use Rattle.semantics.specs.Builtin.{rows}
use Rattle.semantics.specs.Texts.{row_text, row_with}
use Rattle.syntax.specs.Shapes.{Shape, shape_of, shape_by}
use Rattle.syntax.specs.Shapes as s
use Rattle.input_form.specs.Rows.{named_shape}

abbrev pub covers : (Builtin → Bool) → List (List ℕ) → List Builtin → Bool
covers test listed [] = true
covers test listed (r ∷ rs) = (test r || list_any (bytes_eq (row_text r)) listed) && covers test listed rs

abbrev pub Passes : (Builtin → Bool) → Option Builtin → Type 0
Passes test None = Unit {0}
Passes test (Some r) = test r ≡ true

both : (a b : Bool) → (a && b) ≡ true → (a ≡ true) × (b ≡ true)
both true true e = (refl, refl)
both true false e = cc
both false b e = cc

first_of : (a b : Bool) → (a || b) ≡ true → b ≡ false → a ≡ true
first_of true b e f = refl
first_of false true e f = cc
first_of false false e f = cc

same_text : (s t : List ℕ) → is_eq (text_cmp s t) ≡ true → s ≡ t
same_text s t e = (bytes_eq-Decides s t).0 (sym (is_eq-slice_cmp s t) ∙ e)

-- the row with a name that is not listed passes a test that every row with another name passes
pub unlisted : (test : Builtin → Bool) (listed : List (List ℕ)) (rs : List Builtin) (t : List ℕ)
    → list_any (bytes_eq t) listed ≡ false → covers test listed rs ≡ true → Passes test (row_with rs t)
unlisted test listed [] t out all = tt
unlisted test listed (r ∷ rs) t out all = go (is_eq (text_cmp (row_text r) t)) refl (unlisted test listed rs t out parts.1)
  where
    parts : ((test r || list_any (bytes_eq (row_text r)) listed) ≡ true) × (covers test listed rs ≡ true)
    parts = both (test r || list_any (bytes_eq (row_text r)) listed) (covers test listed rs) all

    go : (b : Bool) → is_eq (text_cmp (row_text r) t) ≡ b → Passes test (row_with rs t) → Passes test (elim b [ true ↦ Some r | false ↦ row_with rs t ])
    go true e others =
        let is : row_text r ≡ t = same_text (row_text r) t e in
        first_of (test r) (list_any (bytes_eq (row_text r)) listed) parts.0 (ap (λ u. list_any (bytes_eq u) listed) is ∙ out)
    go false e others = others

abbrev is_other : Shape → Bool
is_other s.Other = true
is_other _ = false

other : (k : Shape) → is_other k ≡ true → k ≡ s.Other
other s.Other e = refl
other _ e = cc

abbrev pub shaped : List (List ℕ)
shaped =
    codes "List" ∷ codes "Blank" ∷ codes "BlankSequence" ∷ codes "BlankNullSequence" ∷ codes "Pattern" ∷
    codes "Slot" ∷ codes "SlotSequence" ∷ codes "Times" ∷ codes "Plus" ∷ codes "Not" ∷ codes "Function" ∷
    codes "PatternTest" ∷ codes "Power" ∷ codes "Condition" ∷ codes "Rule" ∷ codes "RuleDelayed" ∷
    codes "ReplaceAll" ∷ codes "ReplaceRepeated" ∷ codes "Set" ∷ codes "SetDelayed" ∷ codes "Equal" ∷
    codes "Unequal" ∷ codes "Less" ∷ codes "LessEqual" ∷ codes "Greater" ∷ codes "GreaterEqual" ∷ codes "SameQ" ∷
    codes "UnsameQ" ∷ codes "And" ∷ codes "Or" ∷ codes "Alternatives" ∷ codes "CompoundExpression" ∷ []

pub unshaped : (t : List ℕ) → list_any (bytes_eq t) shaped ≡ false → named_shape t ≡ s.Other
unfolding named_shape
unshaped t out = go (row_with rows t) (unlisted (λ r. is_other (shape_of r)) shaped rows t out refl)
  where
    go : (o : Option Builtin) → Passes (λ r. is_other (shape_of r)) o → shape_by o ≡ s.Other
    go None p = refl
    go (Some r) p = other (shape_of r) p

-- a text that is none of these
abbrev pub IsNone : List ℕ → List (List ℕ) → Type 0
IsNone t [] = Unit {0}
IsNone t (n ∷ ns) = (t ≢ n) × IsNone t ns

unequal : (t n : List ℕ) → t ≢ n → bytes_eq t n ≡ false
unequal t n h = go (bytes_eq t n) (bytes_eq-Decides t n)
  where
    go : (b : Bool) → Decides b (t ≡ n) → b ≡ false
    go true d = absurd (h (d.0 refl))
    go false d = refl

pub none : (t : List ℕ) (ns : List (List ℕ)) → IsNone t ns → list_any (bytes_eq t) ns ≡ false
none t [] h = refl
none t (n ∷ ns) h = rw (unequal t n h.0) (none t ns h.1)
