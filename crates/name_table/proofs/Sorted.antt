-- A list in the order of names, each once, is told by what it contains; so are the names that `kept` gives.
use Rattle.std.proofs.Common.{◌≡◌, ◌≢◌, ◌∙◌, refl, sym, ap, subst, ℕ, Bool, true, false, ◌||◌, true≢false, List, [], ◌∷◌, length, map, get_or, ⊎_elim, arith, ◌<◌, ◌+◌, nat_cmp}
use Rattle.std.specs.List.{list_any, AllByRecursion, IsDistinct}
use Rattle.std.specs.List.Sorted.{IsStrictlySortedBy, IsSortedBy}
use Rattle.std.specs.Str.{bytes_eq}
use Rattle.std.specs.Ordering.{ordering_then, ordering_reverse, is_eq, is_lt}
use Rattle.std.specs.Cmp.{IsTotalOrder}
use Rattle.std.specs.declared.cmp.Ordering.{Ordering}
use Rattle.std.specs.declared.cmp.Ordering.TheVariants.{Less, Equal, Greater}
use Rattle.std.proofs.lemmas.Cmp.{nat_list_cmp_total, on_total, then_total, back_total, tied_itself, by_ranked, ranked}
use Rattle.std.proofs.Math.ListN.{length-map}
use Rattle.std.proofs.lemmas.List.{get_or-map}
use Rattle.std.proofs.lemmas.Bool.{cases_Bool}
use Rattle.std.proofs.lemmas.Map.Keys.{sorted_head, sorted_tail, Less-from_sorted, sorted_from_all_adjacent, apart_from_distinct}
use Rattle.std.proofs.lemmas.Map.Lookups.{exact_bytes}
use Rattle.std.proofs.lemmas.Slice.Eq.{bytes_eq-Decides}
use Rattle.expr_tree.specs.Order.{text_cmp}
use Rattle.script_text.specs.Laws.{AreDistinct}
use Rattle.script_text.specs.Spelling.{lowered, name_cmp, insert_by, with_name, kept}

pub name_total : IsTotalOrder name_cmp
name_total = then_total (on_total (map lowered) nat_list_cmp_total) (back_total nat_list_cmp_total)

abbrev pub has : List ℕ → List (List ℕ) → Bool
has t us = list_any (bytes_eq t) us

abbrev pub Ascends : List (List ℕ) → Type 0
Ascends = IsStrictlySortedBy name_cmp

-- ---- single names

pub same_bytes : (s t : List ℕ) → bytes_eq s t ≡ true → s ≡ t
same_bytes s t e = (bytes_eq-Decides s t).0 e

pub own_bytes : (t : List ℕ) → bytes_eq t t ≡ true
own_bytes t = (bytes_eq-Decides t t).1 refl

second_equal : (a b : Ordering) → ordering_then a b ≡ Equal → b ≡ Equal
second_equal Less b e = absurd (true≢false (ap is_lt e))
second_equal Equal b e = e
second_equal Greater b e = absurd (true≢false (sym (ap is_eq e)))

pub equal_names : (s t : List ℕ) → name_cmp s t ≡ Equal → s ≡ t
equal_names s t e = sym (exact_bytes t s (second_equal (text_cmp (map lowered s) (map lowered t)) (text_cmp t s) e))

not_both : (s t : List ℕ) → name_cmp s t ≡ Less → name_cmp t s ≡ Less → ⊥
not_both s t p q = true≢false (ap is_lt (sym p ∙ name_total.antisymm s t ∙ ap ordering_reverse q))

pub not_self : (t : List ℕ) → name_cmp t t ≡ Less → ⊥
not_self t p = true≢false (ap is_lt (sym p ∙ tied_itself name_total t))

turned : (s t : List ℕ) → name_cmp s t ≡ Greater → name_cmp t s ≡ Less
turned s t p = name_total.antisymm t s ∙ ap ordering_reverse p

-- ---- names behind a name

behind : (k t : List ℕ) (ks : List (List ℕ)) → AllByRecursion (λ y. name_cmp k y ≡ Less) ks → has t ks ≡ true → name_cmp k t ≡ Less
behind k t [] a h = absurd (true≢false (sym h))
behind k t (u ∷ us) a h = ⊎_elim
    (λ e. ap (name_cmp k) (same_bytes t u e) ∙ a.0)
    (λ e. behind k t us a.1 (sym (ap (λ b. b || has t us) e) ∙ h))
    (cases_Bool (bytes_eq t u))

own_front : (t : List ℕ) (us : List (List ℕ)) → has t (t ∷ us) ≡ true
own_front t us = ap (λ b. b || has t us) (own_bytes t)

or_right : (a b : Bool) → b ≡ true → (a || b) ≡ true
or_right true b e = refl
or_right false b e = e

all_behind : (k : List ℕ) (ks : List (List ℕ)) → ((t : List ℕ) → has t ks ≡ true → name_cmp k t ≡ Less) → AllByRecursion (λ y. name_cmp k y ≡ Less) ks
all_behind k [] h = tt
all_behind k (u ∷ us) h = (h u (own_front u us), all_behind k us (λ t e. h t (or_right (bytes_eq t u) (has t us) e)))

-- ---- one list

first_in : (x y : List ℕ) (xs : List (List ℕ)) → Ascends (x ∷ xs) → has y (x ∷ xs) ≡ true → (x ≢ y) → name_cmp x y ≡ Less
first_in x y xs s h differ = ⊎_elim
    (λ e. absurd (differ (sym (same_bytes y x e))))
    (λ e. behind x y xs (sorted_head name_cmp x xs s) (sym (ap (λ b. b || has y xs) e) ∙ h))
    (cases_Bool (bytes_eq y x))

first_same : (x y : List ℕ) (xs ys : List (List ℕ)) → Ascends (x ∷ xs) → Ascends (y ∷ ys) → has y (x ∷ xs) ≡ true → has x (y ∷ ys) ≡ true → x ≡ y
first_same x y xs ys s r h g = ⊎_elim
    (λ e. same_bytes x y e)
    (λ e. absurd (not_both x y (first_in x y xs s h (λ p. apart p e)) (first_in y x ys r g (λ p. apart (sym p) e))))
    (cases_Bool (bytes_eq x y))
  where
    apart : x ≡ y → bytes_eq x y ≡ false → ⊥
    apart p e = true≢false (sym ((bytes_eq-Decides x y).1 p) ∙ e)

not_behind_self : (x t : List ℕ) (xs : List (List ℕ)) → Ascends (x ∷ xs) → bytes_eq t x ≡ true → has t xs ≡ false
not_behind_self x t xs s e = ⊎_elim
    (λ h. absurd (not_self x (ap (name_cmp x) (sym (same_bytes t x e)) ∙ behind x t xs (sorted_head name_cmp x xs s) h)))
    (λ h. h)
    (cases_Bool (has t xs))

rest_same : (x : List ℕ) (xs ys : List (List ℕ)) → Ascends (x ∷ xs) → Ascends (x ∷ ys) → ((t : List ℕ) → has t (x ∷ xs) ≡ has t (x ∷ ys)) → (t : List ℕ) → has t xs ≡ has t ys
rest_same x xs ys s r m t = ⊎_elim
    (λ e. not_behind_self x t xs s e ∙ sym (not_behind_self x t ys r e))
    (λ e. sym (ap (λ b. b || has t xs) e) ∙ m t ∙ ap (λ b. b || has t ys) e)
    (cases_Bool (bytes_eq t x))

pub one_list : (xs ys : List (List ℕ)) → Ascends xs → Ascends ys → ((t : List ℕ) → has t xs ≡ has t ys) → xs ≡ ys
one_list [] [] s r m = refl
one_list [] (y ∷ ys) s r m = absurd (true≢false (sym (m y ∙ own_front y ys)))
one_list (x ∷ xs) [] s r m = absurd (true≢false (sym (own_front x xs) ∙ m x))
one_list (x ∷ xs) (y ∷ ys) s r m =
    let same : x ≡ y = first_same x y xs ys s r (m y ∙ own_front y ys) (sym (m x) ∙ own_front x xs) in
    let r' : Ascends (x ∷ ys) = subst (λ z. Ascends (z ∷ ys)) (sym same) r in
    let m' : (t : List ℕ) → has t (x ∷ xs) ≡ has t (x ∷ ys) = λ t. m t ∙ ap (λ z. has t (z ∷ ys)) (sym same) in
    λ i. same i ∷ one_list xs ys (sorted_tail name_cmp x xs s) (sorted_tail name_cmp x ys r') (rest_same x xs ys s r' m') i

-- ---- what `kept` gives

or_twice : (a b : Bool) → (a || b) ≡ (a || (a || b))
or_twice true b = refl
or_twice false b = refl

or_swap : (a b c : Bool) → (a || (b || c)) ≡ (b || (a || c))
or_swap true true c = refl
or_swap true false c = refl
or_swap false b c = refl

has-with_name : (q t : List ℕ) (us : List (List ℕ)) → has q (with_name t us) ≡ (bytes_eq q t || has q us)
has-with_name q t [] = refl
has-with_name q t (u ∷ us) = go (name_cmp t u) refl (has-with_name q t us)
  where
    go : (o : Ordering) → name_cmp t u ≡ o → has q (with_name t us) ≡ (bytes_eq q t || has q us) → has q (insert_by o t u us (with_name t us)) ≡ (bytes_eq q t || (bytes_eq q u || has q us))
    go Less e next = refl
    go Equal e next = ap (λ v. bytes_eq q v || has q us) (sym (equal_names t u e)) ∙ or_twice (bytes_eq q t) (has q us) ∙ ap (λ v. bytes_eq q t || (bytes_eq q v || has q us)) (equal_names t u e)
    go Greater e next = ap (λ b. bytes_eq q u || b) next ∙ or_swap (bytes_eq q u) (bytes_eq q t) (has q us)

pub has-kept : (q : List ℕ) (ts : List (List ℕ)) → has q (kept ts) ≡ has q ts
has-kept q [] = refl
has-kept q (t ∷ ts) = has-with_name q t (kept ts) ∙ ap (λ b. bytes_eq q t || b) (has-kept q ts)

front : (k : List ℕ) (ks : List (List ℕ)) → AllByRecursion (λ y. name_cmp k y ≡ Less) ks → Ascends ks → Ascends (k ∷ ks)
unfolding IsStrictlySortedBy
front k ks a s = (a, s)

empty : Ascends []
unfolding IsStrictlySortedBy
empty = tt

ascends-with_name : (t : List ℕ) (us : List (List ℕ)) → Ascends us → Ascends (with_name t us)
ascends-with_name t [] s = front t [] tt empty
ascends-with_name t (u ∷ us) s = go (name_cmp t u) refl (ascends-with_name t us (sorted_tail name_cmp u us s))
  where
    go : (o : Ordering) → name_cmp t u ≡ o → Ascends (with_name t us) → Ascends (insert_by o t u us (with_name t us))
    go Less e next = front t (u ∷ us) (e, all_behind t us (λ q h. name_total.trans t u q e (behind u q us (sorted_head name_cmp u us s) h))) s
    go Equal e next = s
    go Greater e next = front u (with_name t us) (all_behind u (with_name t us) (λ q h. in_front q (sym (has-with_name q t us) ∙ h))) next
      where
        in_front : (q : List ℕ) → (bytes_eq q t || has q us) ≡ true → name_cmp u q ≡ Less
        in_front q h = ⊎_elim
            (λ p. ap (name_cmp u) (same_bytes q t p) ∙ turned t u e)
            (λ p. behind u q us (sorted_head name_cmp u us s) (sym (ap (λ b. b || has q us) p) ∙ h))
            (cases_Bool (bytes_eq q t))

pub ascends-kept : (ts : List (List ℕ)) → Ascends (kept ts)
ascends-kept [] = empty
ascends-kept (t ∷ ts) = ascends-with_name t (kept ts) (ascends-kept ts)

-- ---- places

pub by_place : (texts : List (List ℕ)) → Ascends texts → (b c : ℕ) → b < length texts → c < length texts → nat_cmp b c ≡ name_cmp (get_or texts b []) (get_or texts c [])
by_place texts s b c hb hc = by_ranked (b < c) (b ≡ c) (c < b) (nat_cmp b c) (ranked b c (nat_cmp b c) refl)
    (λ e p. e ∙ sym (Less-from_sorted name_cmp texts b c [] s p hc))
    (λ e p. e ∙ sym (ap (λ n. name_cmp (get_or texts b []) (get_or texts n [])) (sym p) ∙ tied_itself name_total (get_or texts b [])))
    (λ e p. e ∙ sym (name_total.antisymm (get_or texts b []) (get_or texts c []) ∙ ap ordering_reverse (Less-from_sorted name_cmp texts c b [] s p hb)))

pub distinct : (texts : List (List ℕ)) → Ascends texts → AreDistinct texts
distinct texts s b c hb hc e = by_ranked (b < c) (b ≡ c) (c < b) (nat_cmp b c) (ranked b c (nat_cmp b c) refl)
    (λ _ p. absurd (not_self (get_or texts b []) (ap (name_cmp (get_or texts b [])) e ∙ Less-from_sorted name_cmp texts b c [] s p hc)))
    (λ _ p. p)
    (λ _ p. absurd (not_self (get_or texts c []) (ap (name_cmp (get_or texts c [])) (sym e) ∙ Less-from_sorted name_cmp texts c b [] s p hb)))

-- ---- a sorted list of keys that differ

apart_less : (s t : List ℕ) → is_lt (name_cmp t s) ≡ false → bytes_eq s t ≡ false → name_cmp s t ≡ Less
apart_less s t low apart = go (name_cmp s t) refl
  where
    go : (o : Ordering) → name_cmp s t ≡ o → o ≡ Less
    go Less e = refl
    go Equal e = absurd (true≢false (sym ((bytes_eq-Decides s t).1 (equal_names s t e)) ∙ apart))
    go Greater e = absurd (true≢false (sym (ap is_lt (turned s t e)) ∙ low))

pub strictly : {K : Type 0} (f : K → List ℕ) (keys : List K) → IsSortedBy (λ x y. is_lt (name_cmp (f x) (f y))) keys → IsDistinct (λ x y. bytes_eq (f x) (f y)) keys → Ascends (map f keys)
strictly f [] up apart = empty
strictly {K} f (x ∷ xs) up apart = sorted_from_all_adjacent name_total (map f (x ∷ xs)) [] step
  where
    step : (k : ℕ) → k + 1 < length (map f (x ∷ xs)) → name_cmp (get_or (map f (x ∷ xs)) k []) (get_or (map f (x ∷ xs)) (k + 1) []) ≡ Less
    step k p =
        let long = length-map (x ∷ xs) f in
        rw (get_or-map f (x ∷ xs) (k + 1) x [] (omega (arith, p, long)), get_or-map f (x ∷ xs) k x [] (omega (arith, p, long)))
        (apart_less (f (get_or (x ∷ xs) k x)) (f (get_or (x ∷ xs) (k + 1) x))
        (up k x (omega arith) (omega (arith, p, long)))
        (apart_from_distinct (λ y z. bytes_eq (f y) (f z)) (x ∷ xs) k (k + 1) x apart (omega arith) (omega (arith, p, long))))
