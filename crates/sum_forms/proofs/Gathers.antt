-- Parts that are gathered side by side in the order of their rests are those that are gathered one by one.
use Rattle.std.proofs.Common.{◌≡◌, ◌≢◌, ◌≤◌, ◌+ℤ◌, ℕ, zero, suc, pos, List, [], ◌∷◌, length, map, Bool, true, false, not, ◌&&◌, refl, sym, ap, ◌∙◌, subst, arith, true≢false}
use Rattle.std.specs.List.{filter, sum_by}
use Rattle.std.specs.List.Sorted.{IsSortedBy, IsStableBy, ties}
use Rattle.std.specs.Ordering.{is_lt}
use Rattle.std.specs.declared.cmp.Ordering.{Ordering}
use Rattle.std.specs.declared.cmp.Ordering.TheVariants.{Less, Equal, Greater}
use Rattle.std.proofs.lemmas.List.Filters.{sum_by-filter_both, length-filter_both}
use Rattle.expr_tree.specs.Tree.{Tree}
use Rattle.expr_tree.specs.Order.{tree_cmp, comes_before, same}
use Rattle.expr_tree.proofs.Same.{tree_eq-true, tree_eq-refl}
use Rattle.canon_order.specs.Total.{tree_exact, tree_itself, tree_flip}
use Rattle.semantics.specs.Numbers.{Part, add_part}
use Rattle.sum_forms.specs.Gathering.{gathered_onto, gathered, Alike, add_last, merged_onto}
use Rattle.sum_forms.proofs.Order.{le, exact, Below, more, Rises, step, rises-by}

-- ---- the parts of one rest

abbrev pub of_rest : Tree → Part → Bool
of_rest r p = same p.rest r

filter-yes : (t : Part → Bool) (x : Part) (xs : List Part) → t x ≡ true → filter t (x ∷ xs) ≡ x ∷ filter t xs
filter-yes t x xs e = rw e refl

filter-no : (t : Part → Bool) (x : Part) (xs : List Part) → t x ≡ false → filter t (x ∷ xs) ≡ filter t xs
filter-no t x xs e = rw e refl

abbrev joined : Part → Part → Part
joined p q = record { number = q.number +ℤ p.number; rest = q.rest }

add-same : (p q : Part) (rest : List Part) → same p.rest q.rest ≡ true → add_part p (q ∷ rest) ≡ joined p q ∷ rest
add-same p q rest e = rw (e, add_part) refl

add-other : (p q : Part) (rest : List Part) → same p.rest q.rest ≡ false → add_part p (q ∷ rest) ≡ q ∷ add_part p rest
add-other p q rest e = rw (e, add_part) refl

-- a part is added to those of one rest where that is its own
abbrev chosen : Bool → Part → List Part → List Part
chosen true p gs = add_part p gs
chosen false p gs = gs

filter-end : (r : Tree) (p : Part) (b : Bool) → same p.rest r ≡ b → filter (of_rest r) (p ∷ []) ≡ chosen b p []
filter-end r p true e = filter-yes (of_rest r) p [] e
filter-end r p false e = filter-no (of_rest r) p [] e

filter-step : (r : Tree) (p q : Part) (qs : List Part) (b a d : Bool) → same p.rest q.rest ≡ b → same p.rest r ≡ a → same q.rest r ≡ d → filter (of_rest r) (add_part p qs) ≡ chosen a p (filter (of_rest r) qs)
    → filter (of_rest r) (add_part p (q ∷ qs)) ≡ chosen a p (filter (of_rest r) (q ∷ qs))
filter-step r p q qs true true true e f g ih =
    ap (filter (of_rest r)) (add-same p q qs e) ∙ filter-yes (of_rest r) (joined p q) qs g
    ∙ sym (ap (add_part p) (filter-yes (of_rest r) q qs g) ∙ add-same p q (filter (of_rest r) qs) e)
filter-step r p q qs true false false e f g ih =
    ap (filter (of_rest r)) (add-same p q qs e) ∙ filter-no (of_rest r) (joined p q) qs g ∙ sym (filter-no (of_rest r) q qs g)
filter-step r p q qs true true false e f g ih = absurd (true≢false (sym f ∙ ap (λ x. same x r) (tree_eq-true p.rest q.rest e) ∙ g))
filter-step r p q qs true false true e f g ih = absurd (true≢false (sym g ∙ ap (λ x. same x r) (sym (tree_eq-true p.rest q.rest e)) ∙ f))
filter-step r p q qs false true true e f g ih =
    ap (filter (of_rest r)) (add-other p q qs e) ∙ filter-yes (of_rest r) q (add_part p qs) g ∙ ap (λ l. q ∷ l) ih
    ∙ sym (ap (add_part p) (filter-yes (of_rest r) q qs g) ∙ add-other p q (filter (of_rest r) qs) e)
filter-step r p q qs false true false e f g ih =
    ap (filter (of_rest r)) (add-other p q qs e) ∙ filter-no (of_rest r) q (add_part p qs) g ∙ ih ∙ sym (ap (add_part p) (filter-no (of_rest r) q qs g))
filter-step r p q qs false false true e f g ih =
    ap (filter (of_rest r)) (add-other p q qs e) ∙ filter-yes (of_rest r) q (add_part p qs) g ∙ ap (λ l. q ∷ l) ih ∙ sym (filter-yes (of_rest r) q qs g)
filter-step r p q qs false false false e f g ih =
    ap (filter (of_rest r)) (add-other p q qs e) ∙ filter-no (of_rest r) q (add_part p qs) g ∙ ih ∙ sym (filter-no (of_rest r) q qs g)

filter-add : (r : Tree) (p : Part) (gs : List Part) → filter (of_rest r) (add_part p gs) ≡ chosen (same p.rest r) p (filter (of_rest r) gs)
filter-add r p [] = filter-end r p (same p.rest r) refl
filter-add r p (q ∷ qs) = filter-step r p q qs (same p.rest q.rest) (same p.rest r) (same q.rest r) refl refl refl (filter-add r p qs)

onto-chosen : (r : Tree) (p : Part) (ps hs : List Part) (b : Bool) → same p.rest r ≡ b → gathered_onto (filter (of_rest r) ps) (chosen b p hs) ≡ gathered_onto (filter (of_rest r) (p ∷ ps)) hs
onto-chosen r p ps hs true e = ap (λ l. gathered_onto l hs) (sym (filter-yes (of_rest r) p ps e))
onto-chosen r p ps hs false e = ap (λ l. gathered_onto l hs) (sym (filter-no (of_rest r) p ps e))

filter-gathered : (r : Tree) (ps gs : List Part) → filter (of_rest r) (gathered_onto ps gs) ≡ gathered_onto (filter (of_rest r) ps) (filter (of_rest r) gs)
filter-gathered r [] gs = refl
filter-gathered r (p ∷ ps) gs =
    filter-gathered r ps (add_part p gs) ∙ ap (gathered_onto (filter (of_rest r) ps)) (filter-add r p gs) ∙ onto-chosen r p ps (filter (of_rest r) gs) (same p.rest r) refl

-- ---- lists with the same parts of each rest

filters-at : (s t : Part → Bool) (x : Part) (xs : List Part) (a b : Bool) → s x ≡ a → t x ≡ b → filter s (filter t xs) ≡ filter t (filter s xs) → filter s (filter t (x ∷ xs)) ≡ filter t (filter s (x ∷ xs))
filters-at s t x xs true true e f ih = ap (filter s) (filter-yes t x xs f) ∙ filter-yes s x (filter t xs) e ∙ ap (λ l. x ∷ l) ih ∙ sym (ap (filter t) (filter-yes s x xs e) ∙ filter-yes t x (filter s xs) f)
filters-at s t x xs true false e f ih = ap (filter s) (filter-no t x xs f) ∙ ih ∙ sym (ap (filter t) (filter-yes s x xs e) ∙ filter-no t x (filter s xs) f)
filters-at s t x xs false true e f ih = ap (filter s) (filter-yes t x xs f) ∙ filter-no s x (filter t xs) e ∙ ih ∙ sym (ap (filter t) (filter-no s x xs e))
filters-at s t x xs false false e f ih = ap (filter s) (filter-no t x xs f) ∙ ih ∙ sym (ap (filter t) (filter-no s x xs e))

filters-turn : (s t : Part → Bool) (xs : List Part) → filter s (filter t xs) ≡ filter t (filter s xs)
filters-turn s t [] = refl
filters-turn s t (x ∷ xs) = filters-at s t x xs (s x) (t x) refl refl (filters-turn s t xs)

abbrev other_rest : Tree → Part → Bool
other_rest r p = not (of_rest r p)

fewer : (x : Part) (xs : List Part) → length (filter (other_rest x.rest) (x ∷ xs)) ≤ length xs
fewer x xs =
    omega (arith, length-filter_both (of_rest x.rest) (other_rest x.rest) (λ _. refl) (x ∷ xs), ap length (filter-yes (of_rest x.rest) x xs (tree_eq-refl x.rest)))

no_part : (y : Part) (ys : List Part) → [] ≢ y ∷ ys
no_part y ys e = cc

sums-alike : (n : ℕ) (xs ys : List Part) → length xs ≤ n → ((r : Tree) → filter (of_rest r) xs ≡ filter (of_rest r) ys) → (f : Part → ℕ) → sum_by f xs ≡ sum_by f ys
sums-alike n [] [] low each f = refl
sums-alike n [] (y ∷ ys) low each f = absurd (no_part y (filter (of_rest y.rest) ys) (each y.rest ∙ filter-yes (of_rest y.rest) y ys (tree_eq-refl y.rest)))
sums-alike zero (x ∷ xs) ys low each f = absurd (omega arith)
sums-alike (suc n) (x ∷ xs) ys low each f =
    let t = of_rest x.rest in
    let u = other_rest x.rest in
    let others : sum_by f (filter u (x ∷ xs)) ≡ sum_by f (filter u ys) = sums-alike n (filter u (x ∷ xs)) (filter u ys) (omega (arith, fewer x xs))
    (λ s. filters-turn (of_rest s) u (x ∷ xs) ∙ ap (filter u) (each s) ∙ filters-turn u (of_rest s) ys) f in
    let own : sum_by f (filter t (x ∷ xs)) ≡ sum_by f (filter t ys) = ap (sum_by f) (each x.rest) in
    omega (arith, others, own, sum_by-filter_both t u (λ _. refl) f (x ∷ xs), sum_by-filter_both t u (λ _. refl) f ys)

gathered-alike : (ps qs : List Part) → ((r : Tree) → filter (of_rest r) ps ≡ filter (of_rest r) qs) → Alike (gathered ps) (gathered qs)
gathered-alike ps qs each = record {
  sums = sums-alike (length (gathered ps)) (gathered ps) (gathered qs) (omega arith) (λ r. filter-gathered r ps [] ∙ ap gathered (each r) ∙ sym (filter-gathered r qs []));
}

-- ---- a stable sort by the rests

abbrev pub rest_before : Part → Part → Bool
rest_before p q = comes_before p.rest q.rest

unequal-at : (a b : Tree) (test : Bool) → same a b ≡ test → tree_cmp b a ≢ Equal → same a b ≡ false
unequal-at a b true e other = absurd (other (tree_itself b a (sym (tree_eq-true a b e))))
unequal-at a b false e other = e

equal-same : (a b : Tree) → tree_cmp b a ≡ Equal → same a b ≡ true
equal-same a b e = subst (λ z. same a z ≡ true) (sym (tree_exact b a e)) (tree_eq-refl a)

less_other : Less ≢ Equal
less_other e = cc

greater_other : Greater ≢ Equal
greater_other e = cc

ties-at : (b a : Tree) (o : Ordering) → tree_cmp b a ≡ o → (not (is_lt (tree_cmp b a)) && not (is_lt (tree_cmp a b))) ≡ same a b
ties-at b a Less e = rw e (sym (unequal-at a b (same a b) refl (λ f. less_other (sym e ∙ f))))
ties-at b a Equal e = rw (tree_flip a b, e) (sym (equal-same a b e))
ties-at b a Greater e = rw (tree_flip a b, e) (sym (unequal-at a b (same a b) refl (λ f. greater_other (sym e ∙ f))))

ties-rest : (r : Tree) (p : Part) → ties rest_before (record { number = pos 0; rest = r }) p ≡ of_rest r p
ties-rest r p = ties-at r p.rest (tree_cmp r p.rest) refl

stable-each : (ps qs : List Part) → IsStableBy rest_before ps qs → (r : Tree) → filter (of_rest r) qs ≡ filter (of_rest r) ps
stable-each ps qs stable r = sym (λ i. filter (λ p. ties-rest r p i) qs) ∙ stable (record { number = pos 0; rest = r }) ∙ (λ i. filter (λ p. ties-rest r p i) ps)

-- ---- in the order of the rests, a part belongs to the last place or behind it

abbrev rests : List Part → List Tree
rests ps = map (λ (p : Part). p.rest) ps

apart-at : (q p x : Tree) (test : Bool) → same x q ≡ test → le q p ≡ true → same p q ≡ false → le p x ≡ true → same x q ≡ false
apart-at q p x true e low other high =
    let heads : p ≡ q = exact p q (subst (λ z. le p z ≡ true) (tree_eq-true x q e) high) low in
    absurd (true≢false (sym (tree_eq-refl q) ∙ ap (λ z. same z q) (sym heads) ∙ other))
apart-at q p x false e low other high = e

passed : (q p : Part) (ps gs : List Part) → le q.rest p.rest ≡ true → same p.rest q.rest ≡ false → Below p.rest (rests ps) → gathered_onto ps (q ∷ gs) ≡ q ∷ gathered_onto ps gs
passed q p [] gs low other b = refl
passed q p (x ∷ xs) gs low other (more e b) =
    ap (gathered_onto xs) (add-other x q gs (apart-at q.rest p.rest x.rest (same x.rest q.rest) refl low other e)) ∙ passed q p xs (add_part x gs) low other b

pub last-same : (p q : Part) → same p.rest q.rest ≡ true → add_last p (q ∷ []) ≡ joined p q ∷ []
last-same p q e = rw (e, add_last) refl

pub last-other : (p q : Part) → same p.rest q.rest ≡ false → add_last p (q ∷ []) ≡ q ∷ p ∷ []
last-other p q e = rw (e, add_last) refl

behind-at : (q p x : Part) (xs : List Part) (b : Bool) → same x.rest p.rest ≡ b → ((s : Part) (gs : List Part) → merged_onto xs (q ∷ s ∷ gs) ≡ q ∷ merged_onto xs (s ∷ gs)) → merged_onto xs (q ∷ add_last x (p ∷ [])) ≡ q ∷ merged_onto xs (add_last x (p ∷ []))
behind-at q p x xs true e ih = rw (last-same x p e) (ih (joined x p) [])
behind-at q p x xs false e ih = rw (last-other x p e) (ih p (x ∷ []))

behind : (q : Part) (xs : List Part) (p : Part) (gs : List Part) → merged_onto xs (q ∷ p ∷ gs) ≡ q ∷ merged_onto xs (p ∷ gs)
behind q [] p gs = refl
behind q (x ∷ xs) p [] = behind-at q p x xs (same x.rest p.rest) refl (behind q xs)
behind q (x ∷ xs) p (g ∷ gs) = behind q xs p (add_last x (g ∷ gs))

merged-at : (q p : Part) (ps : List Part) (b : Bool) → same p.rest q.rest ≡ b → Rises (q.rest ∷ p.rest ∷ rests ps)
    → ((s : Part) → Rises (s.rest ∷ rests ps) → merged_onto ps (s ∷ []) ≡ gathered_onto ps (s ∷ []))
    → merged_onto ps (add_last p (q ∷ [])) ≡ gathered_onto ps (add_part p (q ∷ []))
merged-at q p ps true e (step (more low b) (step c r)) ih =
    ap (merged_onto ps) (last-same p q e) ∙ ih (joined p q) (step b r) ∙ sym (ap (gathered_onto ps) (add-same p q [] e))
merged-at q p ps false e (step (more low b) (step c r)) ih =
    ap (merged_onto ps) (last-other p q e) ∙ behind q ps p [] ∙ ap (λ l. q ∷ l) (ih p (step c r))
    ∙ sym (ap (gathered_onto ps) (add-other p q [] e) ∙ passed q p ps (p ∷ []) low e c)

merged-from : (ps : List Part) (q : Part) → Rises (q.rest ∷ rests ps) → merged_onto ps (q ∷ []) ≡ gathered_onto ps (q ∷ [])
merged-from [] q r = refl
merged-from (p ∷ ps) q r = merged-at q p ps (same p.rest q.rest) refl r (merged-from ps)

merged-gathered : (ps : List Part) → Rises (rests ps) → merged_onto ps [] ≡ gathered ps
merged-gathered [] r = refl
merged-gathered (p ∷ ps) r = merged-from ps p r

pub sorted-alike : (ps qs : List Part) → IsStableBy rest_before ps qs → IsSortedBy rest_before qs → Alike (merged_onto qs []) (gathered ps)
sorted-alike ps qs stable sorted =
    subst (λ gs. Alike gs (gathered ps)) (sym (merged-gathered qs (rises-by (λ (p : Part). p.rest) qs sorted)))
    (gathered-alike qs ps (stable-each ps qs stable))
