-- What is judged and written of parts does not depend on their order.
use Rattle.std.proofs.Common.{◌≡◌, ◌+◌, ℕ, zero, suc, ℤ, pos, List, [], ◌∷◌, ◌++◌, Bool, true, false, refl, sym, ap, ◌∙◌, arith}
use Rattle.std.specs.Prelude.{Option, None, Some, cond}
use Rattle.std.specs.List.{sum_by}
use Rattle.std.specs.Ordering.{int_eq}
use Rattle.std.proofs.lemmas.List.Sums.{sum_by-cons}
use Rattle.expr_tree.specs.Tree.{Tree, integer}
use Rattle.expr_tree.specs.Limits.{in_range}
use Rattle.semantics.specs.Names.{Names}
use Rattle.semantics.specs.Worked.{Worked, Gives, TooWide, all_in_range}
use Rattle.semantics.specs.Numbers as Numbers
use Rattle.semantics.specs.Numbers.{Part, add_part, numbers_of, written, assembled}
use Rattle.semantics.specs.Steps.{ordered}
use Rattle.semantics.specs.declared.builtin.Builtin.{Builtin}
use Rattle.sum_forms.specs.Gathering.{gathered_onto, gathered, Alike}
use Rattle.sum_forms.proofs.Order.{unique, ordered-rises, sum-ordered}

onto-more : (ps gs : List Part) (p : Part) → gathered_onto (ps ++ p ∷ []) gs ≡ add_part p (gathered_onto ps gs)
onto-more [] gs p = refl
onto-more (q ∷ qs) gs p = onto-more qs (add_part q gs) p

pub gathered-more : (ps : List Part) (p : Part) → gathered (ps ++ p ∷ []) ≡ add_part p (gathered ps)
gathered-more ps p = onto-more ps [] p

-- the range
abbrev wide : Part → ℕ
wide p = cond (in_range p.number) 0 1

abbrev is_none : ℕ → Bool
is_none zero = true
is_none (suc n) = false

none-more : (n : ℕ) → is_none (0 + n) ≡ is_none n
none-more n = ap is_none (omega arith)

one-more : (n : ℕ) → is_none (1 + n) ≡ false
one-more n = let e : 1 + n ≡ suc n = omega arith in ap is_none e

range-at : (p : Part) (ps : List Part) (b : Bool) → in_range p.number ≡ b → all_in_range (numbers_of ps) ≡ is_none (sum_by wide ps) → all_in_range (numbers_of (p ∷ ps)) ≡ is_none (wide p + sum_by wide ps)
range-at p ps true e ih = rw (e, all_in_range) (ih ∙ sym (none-more (sum_by wide ps)))
range-at p ps false e ih = rw (e, all_in_range) (sym (one-more (sum_by wide ps)))

range-count : (ps : List Part) → all_in_range (numbers_of ps) ≡ is_none (sum_by wide ps)
range-count [] = refl
range-count (p ∷ ps) = range-at p ps (in_range p.number) refl (range-count ps) ∙ ap is_none (sym (sum_by-cons wide p ps))

range-alike : (ps qs : List Part) → Alike ps qs → all_in_range (numbers_of ps) ≡ all_in_range (numbers_of qs)
range-alike ps qs a = range-count ps ∙ ap is_none (a.sums wide) ∙ sym (range-count qs)

-- what is written
abbrev of_written : (Tree → ℕ) → Option Tree → ℕ
of_written f None = 0
of_written f (Some e) = f e

none-beside : (n : ℕ) → n ≡ 0 + n
none-beside n = omega arith

written-at : (f : Tree → ℕ) (write : Part → Option Tree) (p : Part) (ps : List Part) (o : Option Tree) → write p ≡ o → sum_by f (written write ps) ≡ sum_by (λ q. of_written f (write q)) ps
    → sum_by f (written write (p ∷ ps)) ≡ of_written f o + sum_by (λ q. of_written f (write q)) ps
written-at f write p ps None e ih = rw (e, written) (ih ∙ none-beside (sum_by (λ q. of_written f (write q)) ps))
written-at f write p ps (Some t) e ih = rw (e, written) (sum_by-cons f t (written write ps) ∙ ap (λ n. f t + n) ih)

written-sum : (f : Tree → ℕ) (write : Part → Option Tree) (ps : List Part) → sum_by f (written write ps) ≡ sum_by (λ q. of_written f (write q)) ps
written-sum f write [] = refl
written-sum f write (p ∷ ps) = written-at f write p ps (write p) refl (written-sum f write ps) ∙ sym (sum_by-cons (λ q. of_written f (write q)) p ps)

written-alike : (write : Part → Option Tree) (ps qs : List Part) → Alike ps qs → ordered (written write ps) ≡ ordered (written write qs)
written-alike write ps qs a = unique (ordered (written write ps)) (ordered (written write qs)) (ordered-rises (written write ps)) (ordered-rises (written write qs))
    (λ f. sum-ordered f (written write ps) ∙ written-sum f write ps ∙ a.sums (λ q. of_written f (write q)) ∙ sym (written-sum f write qs) ∙ sym (sum-ordered f (written write qs)))

-- the rows
abbrev summed : Names → ℤ → Bool → List Tree → Worked
summed names z fit es =
    elim (elim (in_range z) as (λ _. Bool) [ true ↦ fit | false ↦ false ]) [ true ↦ Gives (assembled names Builtin.Plus (pos 0) z es) | false ↦ TooWide ]

pub sum-alike : (names : Names) (z : ℤ) (ps qs : List Part) → Alike ps qs → Numbers.sum_of names (record { whole_part = z; parts = ps }) ≡ Numbers.sum_of names (record { whole_part = z; parts = qs })
sum-alike names z ps qs a = λ i. summed names z (range-alike ps qs a i) (written-alike (Numbers.write_term names) ps qs a i)

abbrev multiplied : Names → ℤ → Bool → List Tree → Worked
multiplied names z fit es =
    elim (int_eq z (pos 0)) [
      | true ↦ Gives (integer (pos 0))
      | false ↦ elim (elim (in_range z) as (λ _. Bool) [ true ↦ fit | false ↦ false ]) [ true ↦ Gives (assembled names Builtin.Times (pos 1) z es) | false ↦ TooWide ]
    ]

pub product-alike : (names : Names) (z : ℤ) (ps qs : List Part) → Alike ps qs → Numbers.product_of names (record { whole_part = z; parts = ps }) ≡ Numbers.product_of names (record { whole_part = z; parts = qs })
product-alike names z ps qs a = λ i. multiplied names z (range-alike ps qs a i) (written-alike (Numbers.write_factor names) ps qs a i)
