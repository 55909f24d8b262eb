-- An expression that the laws speak of, over the names of the built-in table with five others.
use Rattle.std.proofs.Common.{◌≡◌, refl, sym, ap, ◌∙◌, ℕ, zero, suc, ◌<◌, Bool, true, false, List, [], ◌∷◌, length, get_or, true≢false, arith, lit<, lit≤}
use Rattle.std.specs.Prelude.{◌&&◌, not, codes}
use Rattle.std.specs.Fmt.{digits}
use Rattle.std.specs.Ordering.{is_eq}
use Rattle.expr_tree.specs.Tree.{Tree}
use Rattle.expr_tree.specs.Order.{text_cmp}
use Rattle.semantics.specs.declared.builtin.Builtin.{Builtin}
use Rattle.semantics.specs.Texts.{names_of}
use Rattle.script_text.specs.Spelling.{place_in}
use Rattle.script_text.specs.Laws.{AreDistinct}
use Rattle.script_text.proofs.Unique.{same_text}
use Rattle.syntax.specs.Reads.{Reads}
use Rattle.laws_readback.specs.Laws.{IsShown}
use Rattle.laws_readback.proofs.Scans.{both_true, not_true}
use Rattle.laws_readback.proofs.Again.{input_is_read_again}
use Rattle.laws_readback.proofs.Rows.{texts, a', b', less, of}

-- ---- the texts

abbrev stands_in : List ℕ → List (List ℕ) → Bool
stands_in t [] = false
stands_in t (u ∷ us) = elim (is_eq (text_cmp t u)) [ true ↦ true | false ↦ stands_in t us ]

abbrev all_distinct : List (List ℕ) → Bool
all_distinct [] = true
all_distinct (t ∷ ts) = not (stands_in t ts) && all_distinct ts

found_in : (t : List ℕ) (ts : List (List ℕ)) (n : ℕ) → n < length ts → t ≡ get_or ts n [] → stands_in t ts ≡ true
found_in t [] n h q = absurd (omega arith)
found_in t (u ∷ us) zero h q =
    ap (λ (v : List ℕ). elim (is_eq (text_cmp t v)) as (λ _. Bool) [ true ↦ true | false ↦ stands_in t us ]) (sym q) ∙ ap (λ o. elim (is_eq o) as (λ _. Bool) [ true ↦ true | false ↦ stands_in t us ]) (same_text t)
found_in t (u ∷ us) (suc n) h q = go (is_eq (text_cmp t u)) (found_in t us n (omega arith) q)
  where
    go : (b : Bool) → stands_in t us ≡ true → elim b as (λ _. Bool) [ true ↦ true | false ↦ stands_in t us ] ≡ true
    go true e = refl
    go false e = e

distinct : (ts : List (List ℕ)) → all_distinct ts ≡ true → AreDistinct ts
distinct [] e b c h k q = absurd (omega arith)
distinct (t ∷ ts) e zero zero h k q = refl
distinct (t ∷ ts) e zero (suc c) h k q = absurd (true≢false (sym (found_in t ts c (omega arith) q) ∙ not_true (stands_in t ts) (both_true (not (stands_in t ts)) (all_distinct ts) e).0))
distinct (t ∷ ts) e (suc b) zero h k q = absurd (true≢false (sym (found_in t ts b (omega arith) (sym q)) ∙ not_true (stands_in t ts) (both_true (not (stands_in t ts)) (all_distinct ts) e).0))
distinct (t ∷ ts) e (suc b) (suc c) h k q = ap suc (distinct ts (both_true (not (stands_in t ts)) (all_distinct ts) e).1 b c (omega arith) (omega arith) q)

-- a - 2*b
abbrev difference : Tree
difference = of Builtin.Plus (a' ∷ of Builtin.Times (less 2 ∷ b' ∷ []) ∷ [])

texts_distinct : AreDistinct texts
texts_distinct = distinct texts refl

difference_shown : IsShown texts difference
difference_shown = record {
  kept = (lit< tt, (lit< tt, ((lit< tt, (tt, (lit< tt, tt))), tt)));
  showable = (
    record { is_name = refl; read_back = refl },
    (
      record { is_name = refl; read_back = refl },
      ((record { is_name = refl; read_back = refl }, (refl, (record { is_name = refl; read_back = refl }, tt))), tt),
    ),
  );
  shallow = lit≤ tt;
}

difference_is_read : Reads (names_of texts) (place_in texts) (codes "a - 2*b") difference
unfolding digits
difference_is_read = input_is_read_again texts texts_distinct difference difference_shown
