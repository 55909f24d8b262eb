-- A list in canonical order is told by its elements.
use Rattle.std.proofs.Common.{◌≡◌, ◌+◌, ℕ, suc, List, [], ◌∷◌, get_or, map, Bool, true, false, refl, sym, ap, ◌∙◌, subst, arith}
use Rattle.std.specs.Prelude.{cond, max}
use Rattle.std.specs.List.{sum_by}
use Rattle.std.specs.List.Sorted.{IsPermutation, IsSortedBy}
use Rattle.std.specs.Ordering.{is_le, is_lt, ordering_reverse}
use Rattle.std.specs.declared.cmp.Ordering.{Ordering}
use Rattle.std.specs.declared.cmp.Ordering.TheVariants.{Less, Equal, Greater}
use Rattle.std.proofs.lemmas.List.Sorted.{sum_by-IsPermutation}
use Rattle.std.proofs.lemmas.List.Sums.{sum_by-cons}
use Rattle.expr_tree.specs.Tree.{Tree, trees, size, sizes, depth, depths}
use Rattle.expr_tree.specs.Order.{tree_cmp, comes_before}
use Rattle.canon_order.specs.Total.{tree_exact, tree_itself, tree_flip, tree_chain}
use Rattle.semantics.specs.Steps.{put_in, ordered}

abbrev pub le : Tree → Tree → Bool
le a b = is_le (tree_cmp a b)

reversed : (o p : Ordering) → o ≡ ordering_reverse p → is_le o ≡ false → is_le p ≡ true
reversed Less p e f = absurd (cc)
reversed Equal p e f = absurd (cc)
reversed Greater Less e f = refl
reversed Greater Equal e f = absurd (cc)
reversed Greater Greater e f = absurd (cc)

total : (a b : Tree) → le a b ≡ false → le b a ≡ true
total a b f = reversed (tree_cmp a b) (tree_cmp b a) (tree_flip a b) f

both : (o p : Ordering) → o ≡ ordering_reverse p → is_le o ≡ true → is_le p ≡ true → o ≡ Equal
both Less Less e f g = absurd (cc)
both Less Equal e f g = absurd (cc)
both Less Greater e f g = absurd (cc)
both Equal p e f g = refl
both Greater p e f g = absurd (cc)

pub exact : (a b : Tree) → le a b ≡ true → le b a ≡ true → a ≡ b
exact a b f g = tree_exact a b (both (tree_cmp a b) (tree_cmp b a) (tree_flip a b) f g)

chain-at : (a b d : Tree) (o p : Ordering) → tree_cmp a b ≡ o → tree_cmp b d ≡ p → is_le o ≡ true → is_le p ≡ true → le a d ≡ true
chain-at a b d Less Less e f g h = rw (tree_chain a b d e f) refl
chain-at a b d Less Equal e f g h = subst (λ z. le a z ≡ true) (tree_exact b d f) (rw e refl)
chain-at a b d Less Greater e f g h = absurd (cc)
chain-at a b d Equal p e f g h = subst (λ z. le z d ≡ true) (sym (tree_exact a b e)) (rw f h)
chain-at a b d Greater p e f g h = absurd (cc)

pub chain : (a b d : Tree) → le a b ≡ true → le b d ≡ true → le a d ≡ true
chain a b d g h = chain-at a b d (tree_cmp a b) (tree_cmp b d) refl refl g h

itself : (a : Tree) → le a a ≡ true
itself a = rw (tree_itself a a refl) refl

-- a is below all elements
pub data Below (a : Tree) : List Tree → Type 0 where
  none : Below a []
  more : {x : Tree} {xs : List Tree} → le a x ≡ true → Below a xs → Below a (x ∷ xs)

pub data Rises : List Tree → Type 0 where
  empty : Rises []
  step : {x : Tree} {xs : List Tree} → Below x xs → Rises xs → Rises (x ∷ xs)

abbrev over : Tree → Tree → ℕ
over a x = cond (le a x) 0 1

over-none : (a x : Tree) → le a x ≡ true → over a x ≡ 0
over-none a x e = rw e refl

sum_first : (f : Tree → ℕ) (x : Tree) (xs : List Tree) → sum_by f (x ∷ xs) ≡ f x + sum_by f xs
sum_first f x xs = sum_by-cons f x xs

below-sum : (a : Tree) (xs : List Tree) → Below a xs → sum_by (over a) xs ≡ 0
below-sum a [] none = refl
below-sum a (x ∷ xs) (more e b) = omega (arith, sum_first (over a) x xs, over-none a x e, below-sum a xs b)

le-from_over : (a x : Tree) (b : Bool) → le a x ≡ b → over a x ≡ 0 → le a x ≡ true
le-from_over a x true e f = e
le-from_over a x false e f = absurd (omega (arith, rw e at f))

pub unique : (xs ys : List Tree) → Rises xs → Rises ys → ((f : Tree → ℕ) → sum_by f xs ≡ sum_by f ys) → xs ≡ ys
unique [] [] r s sums = refl
unique [] (y ∷ ys) r s sums = absurd (omega (arith, sums (λ t. 1), sum_first (λ t. 1) y ys))
unique (x ∷ xs) [] r s sums = absurd (omega (arith, sums (λ t. 1), sum_first (λ t. 1) x xs))
unique (x ∷ xs) (y ∷ ys) (step b r) (step d s) sums =
    let low : over x y ≡ 0 = omega (arith, sums (over x), below-sum x (x ∷ xs) (more (itself x) b), sum_first (over x) y ys) in
    let high : over y x ≡ 0 = omega (arith, sums (over y), below-sum y (y ∷ ys) (more (itself y) d), sum_first (over y) x xs) in
    let heads : x ≡ y = exact x y (le-from_over x y (le x y) refl low) (le-from_over y x (le y x) refl high) in
    let tails : xs ≡ ys = unique xs ys r s (λ f. omega (arith, sums f, ap f heads, sum_first f x xs, sum_first f y ys)) in
    λ i. heads i ∷ tails i

pub below-chain : (a b : Tree) (xs : List Tree) → le a b ≡ true → Below b xs → Below a xs
below-chain a b [] e none = none
below-chain a b (x ∷ xs) e (more f d) = more (chain a b x e f) (below-chain a b xs e d)

below-at : (a e x : Tree) (xs : List Tree) (test : Bool) → le e x ≡ test → le a e ≡ true → le a x ≡ true → Below a xs → Below a (put_in e xs) → Below a (put_in e (x ∷ xs))
below-at a e x xs true t f g b c = rw t (more f (more g b))
below-at a e x xs false t f g b c = rw t (more g c)

below-put_in : (a e : Tree) (xs : List Tree) → le a e ≡ true → Below a xs → Below a (put_in e xs)
below-put_in a e [] f none = more f none
below-put_in a e (x ∷ xs) f (more g b) = below-at a e x xs (le e x) refl f g b (below-put_in a e xs f b)

rises-at : (e x : Tree) (xs : List Tree) (test : Bool) → le e x ≡ test → Below x xs → Rises xs → Rises (put_in e xs) → Rises (put_in e (x ∷ xs))
rises-at e x xs true t b r q = rw t (step (more t (below-chain e x xs t b)) (step b r))
rises-at e x xs false t b r q = rw t (step (below-put_in x e xs (total e x t) b) q)

rises-put_in : (e : Tree) (xs : List Tree) → Rises xs → Rises (put_in e xs)
rises-put_in e [] empty = step none empty
rises-put_in e (x ∷ xs) (step b r) = rises-at e x xs (le e x) refl b r (rises-put_in e xs r)

pub ordered-rises : (ts : List Tree) → Rises (ordered ts)
ordered-rises [] = empty
ordered-rises (t ∷ ts) = rises-put_in t (ordered ts) (ordered-rises ts)

sum-at : (f : Tree → ℕ) (e x : Tree) (xs : List Tree) (test : Bool) → le e x ≡ test → sum_by f (put_in e xs) ≡ f e + sum_by f xs → sum_by f (put_in e (x ∷ xs)) ≡ f e + sum_by f (x ∷ xs)
sum-at f e x xs true t q = rw t (sum_first f e (x ∷ xs))
sum-at f e x xs false t q = rw t (omega (arith, sum_first f x (put_in e xs), sum_first f x xs))

sum-put_in : (f : Tree → ℕ) (e : Tree) (xs : List Tree) → sum_by f (put_in e xs) ≡ f e + sum_by f xs
sum-put_in f e [] = sum_first f e []
sum-put_in f e (x ∷ xs) = sum-at f e x xs (le e x) refl (sum-put_in f e xs)

pub sum-ordered : (f : Tree → ℕ) (ts : List Tree) → sum_by f (ordered ts) ≡ sum_by f ts
sum-ordered f [] = refl
sum-ordered f (t ∷ ts) = omega (arith, sum-put_in f t (ordered ts), sum-ordered f ts, sum_first f t ts)

sizes-sum : (ts : List Tree) → sizes (trees ts) ≡ sum_by size ts
sizes-sum [] = refl
sizes-sum (t ∷ ts) = omega (arith, sizes-sum ts, sum_first size t ts)

pub sizes-ordered : (ts : List Tree) → sizes (trees (ordered ts)) ≡ sizes (trees ts)
sizes-ordered ts = sizes-sum (ordered ts) ∙ sum-ordered size ts ∙ sym (sizes-sum ts)

depths-at : (e x : Tree) (xs : List Tree) (test : Bool) → le e x ≡ test → depths (trees (put_in e xs)) ≡ max (depth e) (depths (trees xs)) → depths (trees (put_in e (x ∷ xs))) ≡ max (depth e) (depths (trees (x ∷ xs)))
depths-at e x xs true t q = rw t refl
depths-at e x xs false t q = rw t (omega arith)

depths-put_in : (e : Tree) (xs : List Tree) → depths (trees (put_in e xs)) ≡ max (depth e) (depths (trees xs))
depths-put_in e [] = refl
depths-put_in e (x ∷ xs) = depths-at e x xs (le e x) refl (depths-put_in e xs)

pub depths-ordered : (ts : List Tree) → depths (trees (ordered ts)) ≡ depths (trees ts)
depths-ordered [] = refl
depths-ordered (t ∷ ts) = depths-put_in t (ordered ts) ∙ ap (λ n. max (depth t) n) (depths-ordered ts)

-- neighbours in order
not_under : (o p : Ordering) → o ≡ ordering_reverse p → is_lt o ≡ false → is_le p ≡ true
not_under Less p e f = absurd (cc)
not_under Equal Less e f = refl
not_under Equal Equal e f = refl
not_under Equal Greater e f = absurd (cc)
not_under Greater Less e f = refl
not_under Greater Equal e f = refl
not_under Greater Greater e f = absurd (cc)

extend : (x y : Tree) (ys : List Tree) → le x y ≡ true → Rises (y ∷ ys) → Rises (x ∷ y ∷ ys)
extend x y ys e (step b r) = step (more e (below-chain x y ys e b)) (step b r)

sorted-rest : {X : Type 0} (lt : X → X → Bool) (x : X) (xs : List X) → IsSortedBy lt (x ∷ xs) → IsSortedBy lt xs
sorted-rest lt x xs s = λ k d low high. let at = s (suc k) d (omega arith) (omega arith) in let moved : suc k + 1 ≡ suc (k + 1) = omega arith in subst (λ j. lt (get_or (x ∷ xs) j d) (get_or (x ∷ xs) (suc k) d) ≡ false) moved at

-- sorted by what stands in the elements
pub rises-by : {X : Type 0} (of : X → Tree) (xs : List X) → IsSortedBy (λ x y. comes_before (of x) (of y)) xs → Rises (map of xs)
rises-by of [] s = empty
rises-by of (x ∷ []) s = step none empty
rises-by of (x ∷ y ∷ ys) s =
    extend (of x) (of y) (map of ys) (not_under (tree_cmp (of y) (of x)) (tree_cmp (of x) (of y)) (tree_flip (of y) (of x)) (s 0 x (omega arith) (omega arith)))
    (rises-by of (y ∷ ys) (sorted-rest (λ x y. comes_before (of x) (of y)) x (y ∷ ys) s))

map-same : (ts : List Tree) → map (λ t. t) ts ≡ ts
map-same [] = refl
map-same (t ∷ ts) = ap (λ l. t ∷ l) (map-same ts)

pub rises-sorted : (ts : List Tree) → IsSortedBy comes_before ts → Rises ts
rises-sorted ts s = subst Rises (map-same ts) (rises-by (λ t. t) ts s)

pub sorted-ordered : (ts ys : List Tree) → IsPermutation ts ys → IsSortedBy comes_before ys → ys ≡ ordered ts
sorted-ordered ts ys same sorted = unique ys (ordered ts) (rises-sorted ys sorted) (ordered-rises ts) (λ f. sum_by-IsPermutation f ts ys same ∙ sym (sum-ordered f ts))
