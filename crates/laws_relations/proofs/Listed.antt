-- Related lists: reversed, cut, repeated.
use Rattle.std.proofs.Common.{◌≡◌, subst, ℕ, zero, suc, List, reverse, take, drop, replicate, Option, Some, None}
use mathlib.Core.List.{reverse_aux}
use Rattle.laws_relations.proofs.Relate.{All, all_nil, all_cons}

reversed_onto : {A : Type 0} {R : A → A → Type 0} {as' bs cs ds : List A} → All R as' bs → All R cs ds → All R (reverse_aux as' cs) (reverse_aux bs ds)
reversed_onto all_nil m = m
reversed_onto (all_cons r l) m = reversed_onto l (all_cons r m)

pub reverse2 : {A : Type 0} {R : A → A → Type 0} {as' bs : List A} → All R as' bs → All R (reverse as') (reverse bs)
reverse2 l = reversed_onto l all_nil

pub take2 : {A : Type 0} {R : A → A → Type 0} (n : ℕ) {as' bs : List A} → All R as' bs → All R (take n as') (take n bs)
take2 zero l = all_nil
take2 (suc n) all_nil = all_nil
take2 (suc n) (all_cons r l) = all_cons r (take2 n l)

pub drop2 : {A : Type 0} {R : A → A → Type 0} (n : ℕ) {as' bs : List A} → All R as' bs → All R (drop n as') (drop n bs)
drop2 zero l = l
drop2 (suc n) all_nil = all_nil
drop2 (suc n) (all_cons r l) = drop2 n l

pub replicate2 : {A : Type 0} {R : A → A → Type 0} (n : ℕ) (a b : A) → R a b → All R (replicate n a) (replicate n b)
replicate2 zero a b r = all_nil
replicate2 (suc n) a b r = all_cons r (replicate2 n a b r)

-- the same option on both sides
pub same_case : {A B : Type 0} (Q : B → B → Type 0) {o p : Option A} {m m' : B} {k k' : A → B} → o ≡ p → Q m m' → ((a : A) → Q (k a) (k' a))
    → Q (elim o [ None ↦ m | Some a ↦ k a ]) (elim p [ None ↦ m' | Some a ↦ k' a ])
same_case {A = A} Q {o = o} {m = m} {m' = m'} {k = k} {k' = k'} e here there =
    subst (λ p. Q (elim o [ None ↦ m | Some a ↦ k a ]) (elim p [ None ↦ m' | Some a ↦ k' a ])) e (go o)
  where
    go : (o : Option A) → Q (elim o [ None ↦ m | Some a ↦ k a ]) (elim o [ None ↦ m' | Some a ↦ k' a ])
    go None = here
    go (Some a) = there a
