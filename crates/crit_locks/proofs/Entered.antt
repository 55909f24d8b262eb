-- What kernels hold when one of them has taken locks.
use Rattle.std.proofs.Common.{◌≡◌, refl, ap, subst, ◌∙◌, ℕ, Bool, true, false, List, [], ◌∷◌, ◌++◌, map, eqb-true}
use Rattle.std.specs.Prelude.{◌==◌}
use Rattle.expr_tree.specs.declared.sym.Sym.{Sym}
use Rattle.crit_locks.specs.declared.held.Held.{Held}
use Rattle.crit_locks.specs.Holdings.{Holdings, locks_by, held_by}

append_step : (b : Bool) (l : Sym) (xs ys zs : List Sym) → xs ≡ ys ++ zs
    → elim b as (λ _. List Sym) [ true ↦ l ∷ xs | false ↦ xs ] ≡ (elim b as (λ _. List Sym) [ true ↦ l ∷ ys | false ↦ ys ]) ++ zs
append_step true l xs ys zs e = ap (λ s. l ∷ s) e
append_step false l xs ys zs e = e

locks_of_both : (j : ℕ) (hs gs : List Held) → locks_by j (hs ++ gs) ≡ locks_by j hs ++ locks_by j gs
locks_of_both j [] gs = refl
locks_of_both j (h ∷ hs) gs = append_step (h.by == j) h.lock (locks_by j (hs ++ gs)) (locks_by j hs) (locks_by j gs) (locks_of_both j hs gs)

taken : (j k : ℕ) (b : Bool) → (k == j) ≡ b → (ls : List Sym) → locks_by j (map (held_by k) ls) ≡ elim b [ true ↦ ls | false ↦ [] ]
taken j k true is [] = refl
taken j k false is [] = refl
taken j k true is (l ∷ ls) =
    ap (λ b. elim b as (λ _. List Sym) [ true ↦ l ∷ locks_by j (map (held_by k) ls) | false ↦ locks_by j (map (held_by k) ls) ]) is
    ∙ ap (λ xs. l ∷ xs) (taken j k true is ls)
taken j k false is (l ∷ ls) =
    ap (λ b. elim b as (λ _. List Sym) [ true ↦ l ∷ locks_by j (map (held_by k) ls) | false ↦ locks_by j (map (held_by k) ls) ]) is
    ∙ taken j k false is ls

with_nothing : (xs : List Sym) → xs ++ [] ≡ xs
with_nothing [] = refl
with_nothing (x ∷ xs) = ap (λ ys. x ∷ ys) (with_nothing xs)

join : (j k : ℕ) (b : Bool) (hs : List Held) (ls : List Sym) → (k == j) ≡ b → locks_by k hs ≡ []
    → locks_by j hs ++ elim b as (λ _. List Sym) [ true ↦ ls | false ↦ [] ] ≡ elim b [ true ↦ ls | false ↦ locks_by j hs ]
join j k true hs ls is outside = ap (λ xs. xs ++ ls) (subst (λ i. locks_by i hs ≡ []) (eqb-true k j is) outside)
join j k false hs ls is outside = with_nothing (locks_by j hs)

pub entered_by_each : (k j : ℕ) (hs : List Held) (ls : List Sym) → locks_by k hs ≡ []
    → locks_by j (hs ++ map (held_by k) ls) ≡ elim (k == j) [ true ↦ ls | false ↦ locks_by j hs ]
entered_by_each k j hs ls outside =
    locks_of_both j hs (map (held_by k) ls)
    ∙ (ap (λ xs. locks_by j hs ++ xs) (taken j k (k == j) refl ls) ∙ join j k (k == j) hs ls refl outside)

pub entered_as_seen : (k : ℕ) (hs gs : List Held) (ls : List Sym) (room : ℕ) (h : Holdings) → record { held = hs; room = room } ≡ h
    → gs ≡ hs ++ map (held_by k) ls → locks_by k h.held ≡ []
    → (j : ℕ) → locks_by j gs ≡ elim (k == j) [ true ↦ ls | false ↦ locks_by j h.held ]
entered_as_seen k hs gs ls room h is all outside j =
    ap (locks_by j) (all ∙ ap (λ x. x.held ++ map (held_by k) ls) is) ∙ entered_by_each k j h.held ls outside
