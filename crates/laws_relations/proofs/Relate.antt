-- Relations lifted to options and lists, and what computing on related values keeps.
use Rattle.std.proofs.Common.{◌≡◌, refl, ap, subst, suc, Bool, true, false, List, [], ◌∷◌, ◌++◌, map, length, Option, Some, None}
use Rattle.semantics.specs.Match.{joined}

-- what a relation between A and A is
abbrev pub Rel : Type 0 → Type 1
Rel A = A → A → Type 0

pub data Opt {A : Type 0} (R : A → A → Type 0) : Option A → Option A → Type 0 where
  none : Opt R None None
  some : {a b : A} → R a b → Opt R (Some a) (Some b)

pub data All {A : Type 0} (R : A → A → Type 0) : List A → List A → Type 0 where
  all_nil : All R [] []
  all_cons : {a b : A} {as' bs : List A} → R a b → All R as' bs → All R (a ∷ as') (b ∷ bs)

-- the same branch on both sides
pub branch : {B : Type 0} (Q : B → B → Type 0) {a b : Bool} {m n m' n' : B} → a ≡ b → Q m m' → Q n n'
    → Q (elim a [ true ↦ m | false ↦ n ]) (elim b [ true ↦ m' | false ↦ n' ])
branch Q {a} {b} {m} {n} {m'} {n'} e one other = subst (λ c. Q (elim a [ true ↦ m | false ↦ n ]) (elim c [ true ↦ m' | false ↦ n' ])) e (go a)
  where
    go : (c : Bool) → Q (elim c [ true ↦ m | false ↦ n ]) (elim c [ true ↦ m' | false ↦ n' ])
    go true = one
    go false = other

pub case : {A B : Type 0} {R : A → A → Type 0} (Q : B → B → Type 0) {o p : Option A} {m m' : B} {k k' : A → B} → Opt R o p → Q m m' → ((a b : A) → R a b → Q (k a) (k' b))
    → Q (elim o [ None ↦ m | Some a ↦ k a ]) (elim p [ None ↦ m' | Some a ↦ k' a ])
case Q none here there = here
case Q (some r) here there = there _ _ r

pub append2 : {A : Type 0} {R : A → A → Type 0} {as' bs cs ds : List A} → All R as' bs → All R cs ds → All R (as' ++ cs) (bs ++ ds)
append2 all_nil l = l
append2 (all_cons r l) m = all_cons r (append2 l m)

pub map2 : {A B : Type 0} {R : A → A → Type 0} {Q : B → B → Type 0} (f g : A → B) {as' bs : List A} → ((a b : A) → R a b → Q (f a) (g b)) → All R as' bs → All Q (map f as') (map g bs)
map2 f g h all_nil = all_nil
map2 f g h (all_cons r l) = all_cons (h _ _ r) (map2 f g h l)

pub joined2 : {A : Type 0} {R : A → A → Type 0} {as' bs : List (List A)} → All (All R) as' bs → All R (joined as') (joined bs)
joined2 all_nil = all_nil
joined2 (all_cons l ls) = append2 l (joined2 ls)

pub length2 : {A : Type 0} {R : A → A → Type 0} {as' bs : List A} → All R as' bs → length as' ≡ length bs
length2 all_nil = refl
length2 (all_cons r l) = ap suc (length2 l)
