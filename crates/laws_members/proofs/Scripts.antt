-- The names of a script stand in order, and the texts of all rows are among them.
use Rattle.std.proofs.Common.{◌≡◌, refl, sym, ap, ◌∙◌, ℕ, zero, suc, ◌<◌, Bool, true, false, List, [], ◌∷◌, ◌++◌, map, length, Option, Some, arith, true≢false}
use Rattle.std.specs.Prelude.{◌||◌}
use Rattle.std.specs.Ordering.{is_eq}
use Rattle.std.specs.Str.{bytes_eq}
use Rattle.expr_tree.specs.Order.{text_cmp}
use Rattle.script_text.specs.Spelling.{spelled, place_in}
use Rattle.script_text.proofs.Unique.{equal_texts, is_equal, same_text}
use Rattle.name_table.proofs.Sorted.{has, same_bytes, own_bytes, has-kept, ascends-kept, distinct}
use Rattle.semantics.specs.declared.builtin.Builtin.{Builtin}
use Rattle.semantics.specs.Builtin.{rows}
use Rattle.semantics.specs.Texts.{row_text, row_with}
use Rattle.journal.specs.Entry.{Text}
use Rattle.journal.specs.Transcript.{script_names, cell_names, opening}
use Rattle.laws_members.specs.Scripts.{ScriptsHaveRows, OpeningsHaveNames}
use Rattle.laws_members.proofs.Named.{row_named, opens_names}

-- a row's name has no number
own_base : (row : Builtin) → (spelled (row_text row)).base ≡ row_text row
own_base Builtin.Plus = refl
own_base _ = refl

abbrev base_of : Text → Text
base_of t = (spelled t).base

or_true : (b : Bool) → (b || true) ≡ true
or_true true = refl
or_true false = refl

-- what is found among rows is among their bases
has_row : (rs : List Builtin) (more : List Text) (t : Text) (row : Builtin) → row_with rs t ≡ Some row → has t (map base_of (map row_text rs ++ more)) ≡ true
has_row [] more t row e = cc
has_row (r ∷ rs) more t row e = go (is_eq (text_cmp (row_text r) t)) refl e (has_row rs more t row)
  where
    go : (b : Bool) → is_eq (text_cmp (row_text r) t) ≡ b → elim b as (λ _. Option Builtin) [ true ↦ Some r | false ↦ row_with rs t ] ≡ Some row
        → (row_with rs t ≡ Some row → has t (map base_of (map row_text rs ++ more)) ≡ true)
        → (bytes_eq t (base_of (row_text r)) || has t (map base_of (map row_text rs ++ more))) ≡ true
    go true q e' next =
        ap (λ b. b || has t (map base_of (map row_text rs ++ more)))
        (ap (bytes_eq t) (own_base r ∙ equal_texts (row_text r) t (is_equal (text_cmp (row_text r) t) q)) ∙ own_bytes t)
    go false q e' next = ap (λ b. bytes_eq t (base_of (row_text r)) || b) (next e') ∙ or_true (bytes_eq t (base_of (row_text r)))

-- what a list has, has a place in it
has_place : (texts : List Text) (t : Text) → has t texts ≡ true → place_in texts t < length texts
has_place [] t h = absurd (true≢false (sym h))
has_place (u ∷ us) t h = go (is_eq (text_cmp u t)) refl (bytes_eq t u) refl h (has_place us t)
  where
    go : (b : Bool) → is_eq (text_cmp u t) ≡ b → (same : Bool) → bytes_eq t u ≡ same → (same || has t us) ≡ true → (has t us ≡ true → place_in us t < length us)
        → elim b as (λ _. ℕ) [ true ↦ zero | false ↦ suc (place_in us t) ] < suc (length us)
    go true e same f h' next = omega arith
    go false e true f h' next =
        absurd (true≢false (sym (ap is_eq (same_text t)) ∙ (ap (λ v. is_eq (text_cmp v t)) (same_bytes t u f) ∙ e)))
    go false e false f h' next = let k = next h' in omega (arith, k)

pub scripts_have_rows : ScriptsHaveRows
scripts_have_rows cells = (
  distinct (script_names cells) (ascends-kept (map base_of (map row_text rows ++ cell_names cells))),
  λ row. has_place (script_names cells) (row_text row)
      (has-kept (row_text row) (map base_of (map row_text rows ++ cell_names cells)) ∙ has_row rows (cell_names cells) (row_text row) row (row_named row)),
)

pub openings_have_names : OpeningsHaveNames
openings_have_names cells kernels steps recovery = let n = scripts_have_rows cells in opens_names (opening (script_names cells) kernels steps recovery) n.0 n.1
