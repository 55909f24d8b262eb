-- The sorted list of given elements is one.
use Rattle.std.proofs.Common.{subst, length-set, ◌≡◌, ℕ, zero, suc, ◌+◌, ◌<◌, ◌≤◌, List, [], ◌∷◌, Bool, true, false, cond, length, get_or, set, refl, ap, sym, ◌∙◌, arith}
use Rattle.std.specs.Ordering.{is_le, is_lt, ordering_reverse}
use Rattle.std.specs.declared.cmp.Ordering.{Ordering}
use Rattle.std.specs.declared.cmp.Ordering.TheVariants.{Less, Equal, Greater}
use Rattle.std.specs.List.{swap}
use Rattle.std.specs.List.Sorted.{IsPermutation, IsSortedBy, IsSortedWithin}
use Rattle.std.proofs.lemmas.List.Sorted.{IsPermutation-keeps}
use Rattle.expr_tree.specs.Tree.{Tree}
use Rattle.expr_tree.specs.Order.{tree_cmp, comes_before}
use Rattle.canon_order.specs.Total.{tree_flip, tree_exact, tree_chain, tree_itself}
use Rattle.semantics.specs.Steps.{put_in, ordered}

-- ---- the order as a test

abbrev pub below : Tree → Tree → Bool
below a b = is_le (tree_cmp a b)

or_other : (p q : Ordering) → p ≡ ordering_reverse q → is_le p ≡ false → is_le q ≡ true
or_other p Less e f = refl
or_other p Equal e f = refl
or_other p Greater e f = absurd (cc (e, f))

equal_both : (p q : Ordering) → p ≡ ordering_reverse q → is_le p ≡ true → is_le q ≡ true → p ≡ Equal
equal_both p Less e f g = absurd (cc (e, f))
equal_both p Equal e f g = e
equal_both p Greater e f g = absurd (cc (e, g))

total : (a b : Tree) → below a b ≡ false → below b a ≡ true
total a b f = or_other (tree_cmp a b) (tree_cmp b a) (tree_flip a b) f

both : (a b : Tree) → below a b ≡ true → below b a ≡ true → a ≡ b
both a b f g = tree_exact a b (equal_both (tree_cmp a b) (tree_cmp b a) (tree_flip a b) f g)

chain : (a b c : Tree) → below a b ≡ true → below b c ≡ true → below a c ≡ true
chain a b c f g = go (tree_cmp a b) (tree_cmp b c) refl refl f g
  where
    go : (p q : Ordering) → tree_cmp a b ≡ p → tree_cmp b c ≡ q → is_le p ≡ true → is_le q ≡ true → below a c ≡ true
    go Less Less u v f g = ap is_le (tree_chain a b c u v)
    go Less Equal u v f g = ap is_le (ap (tree_cmp a) (sym (tree_exact b c v)) ∙ u)
    go Equal q u v f g = ap (λ x. is_le (tree_cmp x c)) (tree_exact a b u) ∙ ap is_le v ∙ g
    go Greater q u v f g = absurd (cc f)
    go Less Greater u v f g = absurd (cc g)

itself : (a : Tree) → below a a ≡ true
itself a = ap is_le (tree_itself a a refl)

-- ---- putting in

put_swap : (a b : Tree) (l : List Tree) → put_in a (put_in b l) ≡ put_in b (put_in a l)
put_swap a b [] = go (below a b) (below b a) refl refl
  where
    go : (p q : Bool) → below a b ≡ p → below b a ≡ q → put_in a (b ∷ []) ≡ put_in b (a ∷ [])
    go true true u v = let e : a ≡ b = both a b u v in simp (u, v) (cc e)
    go true false u v = simp (u, v) refl
    go false true u v = simp (u, v) refl
    go false false u v = absurd (cc (total a b u, v))
put_swap a b (f ∷ fs) = go (below b f) (below a f) (below a b) (below b a) refl refl refl refl (put_swap a b fs)
  where
    go : (p q r s : Bool) → below b f ≡ p → below a f ≡ q → below a b ≡ r → below b a ≡ s → put_in a (put_in b fs) ≡ put_in b (put_in a fs) → put_in a (put_in b (f ∷ fs)) ≡ put_in b (put_in a (f ∷ fs))
    go true true true true w x y z ih = let e : a ≡ b = both a b y z in simp (w, x, y, z) (cc e)
    go true true true false w x y z ih = simp (w, x, y, z) refl
    go true true false true w x y z ih = simp (w, x, y, z) refl
    go true true false false w x y z ih = absurd (cc (total a b y, z))
    go true false true s w x y z ih = absurd (cc (chain a b f y w, x))
    go true false false s w x y z ih = let t : below b a ≡ true = total a b y in simp (w, x, y, t) refl
    go false true r true w x y z ih = absurd (cc (chain b a f z x, w))
    go false true r false w x y z ih = let t : below a b ≡ true = total b a z in simp (w, x, z, t) refl
    go false false r s w x y z ih = simp (w, x) (ap (λ l. f ∷ l) ih)

-- without the first element that e does not come after
abbrev taken : Tree → List Tree → List Tree
taken e [] = []
taken e (f ∷ fs) = cond (below e f) fs (f ∷ taken e fs)

taken_put : (e : Tree) (l : List Tree) → taken e (put_in e l) ≡ l
taken_put e [] = let t : below e e ≡ true = itself e in simp t refl
taken_put e (f ∷ fs) = go (below e f) refl (taken_put e fs)
  where
    go : (p : Bool) → below e f ≡ p → taken e (put_in e fs) ≡ fs → taken e (put_in e (f ∷ fs)) ≡ f ∷ fs
    go true u ih = let t : below e e ≡ true = itself e in simp (u, t) refl
    go false u ih = simp u (ap (λ l. f ∷ l) ih)

put_once : (e : Tree) (k l : List Tree) → put_in e k ≡ put_in e l → k ≡ l
put_once e k l p = sym (taken_put e k) ∙ ap (taken e) p ∙ taken_put e l

-- ---- elements that change places

put_set : (l : List Tree) (i : ℕ) (y d : Tree) → i < length l → put_in (get_or l i d) (ordered (set l i y)) ≡ put_in y (ordered l)
put_set [] i y d p = absurd (omega arith)
put_set (e ∷ es) zero y d p = put_swap e y (ordered es)
put_set (e ∷ es) (suc i) y d p =
    put_swap (get_or es i d) e (ordered (set es i y)) ∙ ap (put_in e) (put_set es i y d (omega arith)) ∙ put_swap e y (ordered es)

set_again : (l : List Tree) (i j : ℕ) (y d : Tree) → get_or l j d ≡ y → get_or (set l i y) j d ≡ y
set_again [] i j y d h = h
set_again (e ∷ es) zero zero y d h = refl
set_again (e ∷ es) zero (suc j) y d h = h
set_again (e ∷ es) (suc i) zero y d h = h
set_again (e ∷ es) (suc i) (suc j) y d h = set_again es i j y d h

swapped_from : (l : List Tree) (i j : ℕ) (d : Tree) → i < length l → j < length l → ordered (set (set l i (get_or l j d)) j (get_or l i d)) ≡ ordered l
swapped_from l i j d p q =
    let long : j < length (set l i (get_or l j d)) = rw (length-set l i (get_or l j d)) q in
    let back : put_in (get_or (set l i (get_or l j d)) j d) (ordered (set (set l i (get_or l j d)) j (get_or l i d))) ≡ put_in (get_or l i d) (ordered (set l i (get_or l j d))) =
    put_set (set l i (get_or l j d)) j (get_or l i d) d long in
    let there : put_in (get_or l i d) (ordered (set l i (get_or l j d))) ≡ put_in (get_or l j d) (ordered l) = put_set l i (get_or l j d) d p in
    let same : get_or (set l i (get_or l j d)) j d ≡ get_or l j d = set_again l i j (get_or l j d) d refl in
    put_once (get_or l j d) (ordered (set (set l i (get_or l j d)) j (get_or l i d))) (ordered l)
    (ap (λ e. put_in e (ordered (set (set l i (get_or l j d)) j (get_or l i d)))) (sym same) ∙ back ∙ there)

swapped : (l : List Tree) (i j : ℕ) → i < length l → j < length l → ordered (swap l i j) ≡ ordered l
swapped [] i j p q = refl
swapped (d ∷ ys) i j p q = swapped_from (d ∷ ys) i j d p q

pub ordered_permutation : (xs ys : List Tree) → IsPermutation xs ys → ordered ys ≡ ordered xs
ordered_permutation xs ys p =
    let P : List Tree → Type 0 = λ l. ordered l ≡ ordered xs in
    IsPermutation-keeps xs P refl (λ l i j a b e. swapped l i j a b ∙ e) ys p

-- ---- a sorted list

not_before : (p q : Ordering) → p ≡ ordering_reverse q → is_lt p ≡ false → is_le q ≡ true
not_before p Less e f = refl
not_before p Equal e f = refl
not_before p Greater e f = absurd (cc (e, f))

pub ordered_sorted : (xs : List Tree) → IsSortedBy comes_before xs → ordered xs ≡ xs
ordered_sorted [] s = refl
ordered_sorted (e ∷ []) s = refl
ordered_sorted (e ∷ f ∷ fs) s =
    let rest : ordered (f ∷ fs) ≡ f ∷ fs = ordered_sorted (f ∷ fs) (λ k d a b. later k d (s (suc k) d (omega arith) (omega arith))) in
    let first : below e f ≡ true = not_before (tree_cmp f e) (tree_cmp e f) (tree_flip f e) (s 0 e (omega arith) (omega arith)) in
    ap (put_in e) rest ∙ simp first refl
  where
    later : (k : ℕ) (d : Tree) → comes_before (get_or (e ∷ f ∷ fs) (suc k + 1) d) (get_or (f ∷ fs) k d) ≡ false → comes_before (get_or (f ∷ fs) (k + 1) d) (get_or (f ∷ fs) k d) ≡ false
    later k d h =
        let n : suc k + 1 ≡ suc (k + 1) = omega arith in
        subst (λ (m : ℕ). comes_before (get_or (e ∷ f ∷ fs) m d) (get_or (f ∷ fs) k d) ≡ false) n h

pub one_order : (xs ys : List Tree) → IsPermutation xs ys → IsSortedBy comes_before ys → ys ≡ ordered xs
one_order xs ys p s = sym (ordered_sorted ys s) ∙ ordered_permutation xs ys p
