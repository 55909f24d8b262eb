-- What is read of the kernels.
use Rattle.std.proofs.Common.{◌≡◌, refl, sym, ap, subst, ◌∙◌, ℕ, zero, suc, ◌+◌, ◌<◌, ◌≤◌, List, [], ◌∷◌, length, map, Bool, true, false, true≢false, Option, Some, None, arith, inl, inr, get_or}
use Rattle.std.specs.Prelude.{◌||◌, ◌⊎◌, MatchOption, IfSome}
use Rattle.expr_tree.specs.declared.sym.Sym.{Sym}
use Rattle.expr_tree.specs.Substitution.{among}
use Rattle.journal.specs.Places.{nth, is_some}
use Rattle.journal.specs.Core.{Kernel, new_kernel, count_living, held_by_some}
use Rattle.crit_locks.specs.declared.held.Held.{Held}
use Rattle.crit_locks.specs.Holdings.{locks_by}
use Rattle.requeue_core.specs.Losses.{lives_in}
use Rattle.master_core.specs.Joined.{kernel_in, kernels_in}

pub lives_from : (n p : ℕ) (bs : List Bool) (os : List (Option ℕ)) (hs : List Held)
    → lives_in bs p ≡ elim (nth (kernels_in n bs os hs) p) as (λ _. Bool) [ None ↦ false | Some x ↦ x.lives ]
lives_from n p [] os hs = refl
lives_from n zero (b ∷ bs) [] hs = refl
lives_from n zero (b ∷ bs) (o ∷ os) hs = refl
lives_from n (suc p) (b ∷ bs) [] hs = lives_from (suc n) p bs [] hs
lives_from n (suc p) (b ∷ bs) (o ∷ os) hs = lives_from (suc n) p bs os hs

pub attempt_from : (n p : ℕ) (bs : List Bool) (os : List (Option ℕ)) (hs : List Held) (o : Option ℕ) → length os ≡ length bs → p < length os
    → get_or os p o ≡ elim (nth (kernels_in n bs os hs) p) as (λ _. Option ℕ) [ None ↦ None | Some x ↦ x.attempt ]
attempt_from n p [] [] hs d long lt = absurd (omega (arith, lt))
attempt_from n p [] (o ∷ os) hs d long lt = absurd (omega (arith, long))
attempt_from n p (b ∷ bs) [] hs d long lt = absurd (omega (arith, long))
attempt_from n zero (b ∷ bs) (o ∷ os) hs d long lt = refl
attempt_from n (suc p) (b ∷ bs) (o ∷ os) hs d long lt = attempt_from (suc n) p bs os hs d (omega (arith, long)) (omega (arith, lt))

pub count_from : (n : ℕ) (bs : List Bool) (os : List (Option ℕ)) (hs : List Held) → count_living (map new_kernel bs) ≡ count_living (kernels_in n bs os hs)
count_from n [] os hs = refl
count_from n (b ∷ bs) [] hs = ap (λ m. elim b as (λ _. ℕ) [ true ↦ suc m | false ↦ m ]) (count_from (suc n) bs [] hs)
count_from n (b ∷ bs) (o ∷ os) hs = ap (λ m. elim b as (λ _. ℕ) [ true ↦ suc m | false ↦ m ]) (count_from (suc n) bs os hs)

free_from : (n : ℕ) (bs : List Bool) (os : List (Option ℕ)) (hs : List Held) (l : Sym) → ((k : ℕ) → among l (locks_by k hs) ≡ false) → held_by_some (kernels_in n bs os hs) l ≡ false
free_from n [] os hs l none = refl
free_from n (b ∷ bs) [] hs l none = ap (λ x. x || held_by_some (kernels_in (suc n) bs [] hs) l) (none n) ∙ free_from (suc n) bs [] hs l none
free_from n (b ∷ bs) (o ∷ os) hs l none = ap (λ x. x || held_by_some (kernels_in (suc n) bs os hs) l) (none n) ∙ free_from (suc n) bs os hs l none

or_right : (a b : Bool) → b ≡ true → (a || b) ≡ true
or_right true b e = refl
or_right false b e = e

held_from : (n p : ℕ) (bs : List Bool) (os : List (Option ℕ)) (hs : List Held) (l : Sym) (k : ℕ) → k ≡ n + p → p < length bs → among l (locks_by k hs) ≡ true → held_by_some (kernels_in n bs os hs) l ≡ true
held_from n p [] os hs l k is lt has = absurd (omega (arith, lt))
held_from n zero (b ∷ bs) [] hs l k is lt has =
    let at : k ≡ n = omega (arith, is) in
    ap (λ x. x || held_by_some (kernels_in (suc n) bs [] hs) l) (ap (λ m. among l (locks_by m hs)) (sym at) ∙ has)
held_from n zero (b ∷ bs) (o ∷ os) hs l k is lt has =
    let at : k ≡ n = omega (arith, is) in
    ap (λ x. x || held_by_some (kernels_in (suc n) bs os hs) l) (ap (λ m. among l (locks_by m hs)) (sym at) ∙ has)
held_from n (suc p) (b ∷ bs) [] hs l k is lt has = or_right (among l (locks_by n hs)) _ (held_from (suc n) p bs [] hs l k (omega (arith, is)) (omega (arith, lt)) has)
held_from n (suc p) (b ∷ bs) (o ∷ os) hs l k is lt has = or_right (among l (locks_by n hs)) _ (held_from (suc n) p bs os hs l k (omega (arith, is)) (omega (arith, lt)) has)

pub locks_from : (n p : ℕ) (bs : List Bool) (os : List (Option ℕ)) (hs : List Held) (k : ℕ) → k ≡ n + p → p < length bs
    → locks_by k hs ≡ elim (nth (kernels_in n bs os hs) p) as (λ _. List Sym) [ None ↦ [] | Some x ↦ x.locks ]
locks_from n p [] os hs k is lt = absurd (omega (arith, lt))
locks_from n zero (b ∷ bs) [] hs k is lt = ap (λ m. locks_by m hs) (omega (arith, is))
locks_from n zero (b ∷ bs) (o ∷ os) hs k is lt = ap (λ m. locks_by m hs) (omega (arith, is))
locks_from n (suc p) (b ∷ bs) [] hs k is lt = locks_from (suc n) p bs [] hs k (omega (arith, is)) (omega (arith, lt))
locks_from n (suc p) (b ∷ bs) (o ∷ os) hs k is lt = locks_from (suc n) p bs os hs k (omega (arith, is)) (omega (arith, lt))

none_past : (n p : ℕ) (bs : List Bool) (os : List (Option ℕ)) (hs : List Held) → length bs ≤ p
    → [] ≡ elim (nth (kernels_in n bs os hs) p) as (λ _. List Sym) [ None ↦ [] | Some x ↦ x.locks ]
none_past n p [] os hs far = refl
none_past n zero (b ∷ bs) os hs far = absurd (omega (arith, far))
none_past n (suc p) (b ∷ bs) [] hs far = none_past (suc n) p bs [] hs (omega (arith, far))
none_past n (suc p) (b ∷ bs) (o ∷ os) hs far = none_past (suc n) p bs os hs (omega (arith, far))

either : (k m : ℕ) → (k < m) ⊎ (m ≤ k)
either k zero = inr (omega arith)
either zero (suc m) = inl (omega arith)
either (suc k) (suc m) = go (either k m)
  where
    go : (k < m) ⊎ (m ≤ k) → (suc k < suc m) ⊎ (suc m ≤ suc k)
    go (inl e) = inl (omega (arith, e))
    go (inr e) = inr (omega (arith, e))

module _ (bs : List Bool) (os : List (Option ℕ)) (hs : List Held) (within : (k : ℕ) → length bs ≤ k → locks_by k hs ≡ []) where
  -- who holds what
  pub locks_are : (k : ℕ) → locks_by k hs ≡ elim (nth (kernels_in 0 bs os hs) k) as (λ _. List Sym) [ None ↦ [] | Some x ↦ x.locks ]
  locks_are k = go (either k (length bs))
    where
      go : (k < length bs) ⊎ (length bs ≤ k) → locks_by k hs ≡ elim (nth (kernels_in 0 bs os hs) k) as (λ _. List Sym) [ None ↦ [] | Some x ↦ x.locks ]
      go (inl lt) = locks_from 0 k bs os hs k (omega arith) lt
      go (inr far) = within k far ∙ none_past 0 k bs os hs far

  pub held_is : (l : Sym) (o : Option ℕ) → MatchOption o ((k : ℕ) → among l (locks_by k hs) ≡ false) (λ k. among l (locks_by k hs) ≡ true) → is_some o ≡ held_by_some (kernels_in 0 bs os hs) l
  held_is l None none = sym (free_from 0 bs os hs l none)
  held_is l (Some k) has = go (either k (length bs))
    where
      go : (k < length bs) ⊎ (length bs ≤ k) → true ≡ held_by_some (kernels_in 0 bs os hs) l
      go (inl lt) = sym (held_from 0 k bs os hs l k (omega arith) lt has)
      go (inr far) = absurd (true≢false (sym has ∙ ap (among l) (within k far)))

  pub holder_is : (l : Sym) (o : Option ℕ) → MatchOption o ((k : ℕ) → among l (locks_by k hs) ≡ false) (λ k. among l (locks_by k hs) ≡ true)
      → IfSome o (λ k. among l (elim (nth (kernels_in 0 bs os hs) k) as (λ _. List Sym) [ None ↦ [] | Some x ↦ x.locks ]) ≡ true)
  holder_is l None none = tt
  holder_is l (Some k) has = ap (among l) (sym (locks_are k)) ∙ has
