-- Texts that differ and have those of all rows among them give names.
use Rattle.std.proofs.Common.{◌≡◌, refl, sym, ap, ◌∙◌, ℕ, zero, suc, ◌<◌, Bool, true, false, List, [], ◌∷◌, length, get_or, Option, Some, arith}
use Rattle.std.specs.Ordering.{is_eq}
use Rattle.expr_tree.specs.Order.{text_cmp}
use Rattle.script_text.specs.Spelling.{place_in}
use Rattle.script_text.proofs.Unique.{found_at, equal_texts, is_equal}
use Rattle.semantics.specs.declared.builtin.Builtin.{Builtin}
use Rattle.semantics.specs.Builtin.{rows}
use Rattle.semantics.specs.Texts.{row_text, row_with, row_at}
use Rattle.laws_members.specs.Listed.{OpensNames}

-- each row has a name of its own
pub row_named : (row : Builtin) → row_with rows (row_text row) ≡ Some row
row_named Builtin.Plus = refl
row_named _ = refl

row_found : (rs : List Builtin) (t : List ℕ) (row : Builtin) → row_with rs t ≡ Some row → row_text row ≡ t
row_found [] t row e = cc
row_found (r ∷ rs) t row e = go (is_eq (text_cmp (row_text r) t)) refl (row_found rs t row) e
  where
    go : (b : Bool) → is_eq (text_cmp (row_text r) t) ≡ b → (row_with rs t ≡ Some row → row_text row ≡ t)
        → elim b as (λ _. Option Builtin) [ true ↦ Some r | false ↦ row_with rs t ] ≡ Some row → row_text row ≡ t
    go true q next e = let same : r ≡ row = cc in ap row_text (sym same) ∙ equal_texts (row_text r) t (is_equal (text_cmp (row_text r) t) q)
    go false q next e = next e

row_there : (texts : List (List ℕ)) (n : ℕ) (row : Builtin) → row_at texts n ≡ Some row → (n < length texts) × (row_text row ≡ get_or texts n [])
row_there [] n row e = cc
row_there (t ∷ ts) zero row e = (omega arith, row_found rows t row e)
row_there (t ∷ ts) (suc n) row e = let p = row_there ts n row e in let h = p.0 in (omega (arith, h), p.1)

-- the row at a text's place is that of the text
at_place : (texts : List (List ℕ)) (t : List ℕ) → place_in texts t < length texts → row_at texts (place_in texts t) ≡ row_with rows t
at_place [] t h = absurd (omega arith)
at_place (u ∷ us) t h = go (is_eq (text_cmp u t)) refl h (at_place us t)
  where
    go : (b : Bool) → is_eq (text_cmp u t) ≡ b → elim b [ true ↦ zero | false ↦ suc (place_in us t) ] < suc (length us)
        → (place_in us t < length us → row_at us (place_in us t) ≡ row_with rows t)
        → row_at (u ∷ us) (elim b [ true ↦ zero | false ↦ suc (place_in us t) ]) ≡ row_with rows t
    go true e h' next = ap (row_with rows) (equal_texts u t (is_equal (text_cmp u t) e))
    go false e h' next = next (omega (arith, h'))

pub opens_names : OpensNames
opens_names o distinct has = record {
  found = λ row. at_place o.texts (row_text row) (has row) ∙ row_named row;
  only = λ base row e. let p = row_there o.texts base row e in ap (place_in o.texts) p.1 ∙ found_at o.texts distinct base p.0;
}
