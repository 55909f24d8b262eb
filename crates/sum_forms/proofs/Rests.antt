-- Equal rests, whose numbers are added.
use Rattle.std.proofs.Common.{◌≡◌, ◌<◌, ◌+◌, ℕ, zero, suc, ℤ, pos, ◌+ℤ◌, List, [], ◌∷◌, ◌++◌, length, drop, get_or, true, false, refl, sym, ap, ◌∙◌, subst, arith}
use Rattle.std.proofs.Math.IntN.{+ℤ_assoc, +ℤ_idr, +ℤ_idl}
use Rattle.std.specs.Prelude.{set}
use Rattle.expr_tree.specs.Tree.{Tree}
use Rattle.expr_tree.specs.Order.{same}
use Rattle.semantics.specs.Numbers.{Part}
use Rattle.sum_forms.specs.Gathering.{add_last}
use Rattle.sum_forms.proofs.Gathers.{last-same, last-other}
use Rattle.int_ops.specs.Totals.{total}

pub total-more : (ns : List ℤ) (n : ℤ) → total (ns ++ n ∷ []) ≡ total ns +ℤ n
total-more [] n = +ℤ_idr n ∙ sym (+ℤ_idl n)
total-more (m ∷ ns) n = ap (λ k. m +ℤ k) (total-more ns n) ∙ sym (+ℤ_assoc m (total ns) n)

pub total-one : (n : ℤ) → n +ℤ pos 0 ≡ n
total-one n = +ℤ_idr n

pub ruleset group_steps = (total-more, total-one)

pub cut : (xs : List Part) (i : ℕ) (q : Part) → i < length xs → q ≡ get_or xs i q → drop i xs ≡ q ∷ drop (suc i) xs
cut [] i q low is = absurd (omega arith)
cut (x ∷ xs) zero q low is = ap (λ y. y ∷ xs) (sym is)
cut (x ∷ xs) (suc i) q low is = cut xs i q (omega arith) is

-- the last place
at-last : (p q : Part) (gs : List Part) (i : ℕ) → i + 1 ≡ length gs → q ≡ get_or gs i q → same p.rest q.rest ≡ true → add_last p gs ≡ set gs i (record { number = q.number +ℤ p.number; rest = q.rest })
at-last p q [] i last is e = absurd (omega (arith, last))
at-last p q (x ∷ []) zero last is e = ap (λ y. add_last p (y ∷ [])) (sym is) ∙ last-same p q e
at-last p q (x ∷ []) (suc i) last is e = absurd (omega (arith, last))
at-last p q (x ∷ y ∷ ys) zero last is e = absurd (omega (arith, last))
at-last p q (x ∷ y ∷ ys) (suc i) last is e = ap (λ l. x ∷ l) (at-last p q (y ∷ ys) i (omega (arith, last)) is e)

one_last : (gs : List Part) (i : ℕ) (here q : Part) → i < length gs → here ≡ get_or gs i here → q ≡ get_or gs i q → here ≡ q
one_last [] i here q low at is = absurd (omega arith)
one_last (x ∷ xs) zero here q low at is = at ∙ sym is
one_last (x ∷ xs) (suc i) here q low at is = one_last xs i here q (omega arith) at is

pub found : (rest : Tree) (gs : List Part) (i : ℕ) (here : Part) → i + 1 ≡ length gs → here ≡ get_or gs i here → same rest here.rest ≡ true
    → (n : ℤ) (q : Part) → q ≡ get_or gs i q → add_last (record { number = n; rest = rest }) gs ≡ set gs i (record { number = q.number +ℤ n; rest = q.rest })
found rest gs i here last at e n q is = at-last (record { number = n; rest = rest }) q gs i last is (subst (λ (h : Part). same rest h.rest ≡ true) (one_last gs i here q (omega (arith, last)) at is) e)

pub missing : (rest : Tree) (gs : List Part) (i : ℕ) (here : Part) → i + 1 ≡ length gs → here ≡ get_or gs i here → same rest here.rest ≡ false
    → (n : ℤ) → add_last (record { number = n; rest = rest }) gs ≡ gs ++ record { number = n; rest = rest } ∷ []
missing rest [] i here last at e n = absurd (omega (arith, last))
missing rest (x ∷ []) zero here last at e n = last-other (record { number = n; rest = rest }) x (subst (λ (h : Part). same rest h.rest ≡ false) at e)
missing rest (x ∷ []) (suc i) here last at e n = absurd (omega (arith, last))
missing rest (x ∷ y ∷ ys) zero here last at e n = absurd (omega (arith, last))
missing rest (x ∷ y ∷ ys) (suc i) here last at e n = ap (λ l. x ∷ l) (missing rest (y ∷ ys) i here (omega (arith, last)) at e n)

pub begun : (rest : Tree) (gs : List Part) → length gs ≡ 0 → (n : ℤ) → add_last (record { number = n; rest = rest }) gs ≡ gs ++ record { number = n; rest = rest } ∷ []
begun rest [] none n = refl
begun rest (x ∷ xs) none n = absurd (omega (arith, none))

pub ruleset place_steps = (found, missing, begun)
