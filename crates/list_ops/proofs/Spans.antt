-- The spans that numbers name among so many elements.
use Rattle.std.proofs.Common.{◌≡◌, ◌≢◌, ℕ, zero, suc, ◌+◌, ◌-◌, ◌<◌, ◌≤◌, refl, ap, sym, subst, ◌∙◌, Bool, true, false, List, [], ◌∷◌, ◌++◌, Some, None, length, take, drop, arith}
use Rattle.std.specs.Prelude.{ℤ, pos, negsuc, nat_abs, leb, Option, ◌<ℤ◌, ◌≤ℤ◌}
use Rattle.std.specs.Bool.{IsTrue}
use Rattle.std.specs.Option.{option_map}
use Rattle.std.proofs.lemmas.Bool.{leb-true, leb-false}
use Rattle.std.proofs.lemmas.Int.{ints}
use Rattle.expr_tree.specs.Tree.{Tree, Trees, integer, normal, elements, call}
use Rattle.expr_tree.proofs.Callers.{tree_steps}
use Rattle.semantics.specs.declared.builtin.Builtin.{Builtin}
use Rattle.semantics.specs.Names.{Names, is_call, items_of}
use Rattle.semantics.specs.Worked.{Worked, Stays, Gives}
use Rattle.semantics.specs.Lists.{place_of, between, span_in, span, taken, dropped}
use Rattle.list_ops.specs.Spans.{end_span, list_span, inside, outside}

yes : (a b : ℕ) → a ≤ b → leb a b ≡ true
yes a b p = go (leb a b) refl
  where
    go : (t : Bool) → leb a b ≡ t → leb a b ≡ true
    go true e = e
    go false e = absurd (omega (arith, leb-false a b e))

no_more : (a b : ℕ) → b < a → leb a b ≡ false
no_more a b p = go (leb a b) refl
  where
    go : (t : Bool) → leb a b ≡ t → leb a b ≡ false
    go true e = absurd (omega (arith, leb-true a b e))
    go false e = e

abbrev if_so : Bool → ℕ → Option ℕ
if_so t p = elim t [ true ↦ Some p | false ↦ None ]

pub place_front : (n : ℕ) (z : ℤ) → pos 0 <ℤ z → nat_abs z ≤ n → place_of n z ≡ Some (nat_abs z)
place_front n (pos zero) p q = absurd (omega (arith, ints, p))
place_front n (pos (suc k)) p q = ap (λ t. if_so t (suc k)) (yes (suc k) n q)
place_front n (negsuc k) p q = absurd (omega (arith, ints, p))

pub place_back : (n : ℕ) (z : ℤ) → z ≤ℤ pos 0 → nat_abs z ≢ 0 → nat_abs z ≤ n → place_of n z ≡ Some (n - (nat_abs z - 1))
place_back n (pos zero) p r q = absurd (r refl)
place_back n (pos (suc k)) p r q = absurd (omega (arith, ints, p))
place_back n (negsuc k) p r q = let e : n - k ≡ n - (suc k - 1) = omega arith in ap (λ t. if_so t (n - k)) (yes (suc k) n q) ∙ ap Some e

pub place_zero : (n : ℕ) (z : ℤ) → nat_abs z ≡ 0 → place_of n z ≡ None
place_zero n (pos zero) p = refl
place_zero n (pos (suc k)) p = absurd (omega (arith, p))
place_zero n (negsuc k) p = absurd (omega (arith, p))

pub place_far : (n : ℕ) (z : ℤ) → n < nat_abs z → place_of n z ≡ None
place_far n (pos zero) p = refl
place_far n (pos (suc k)) p = ap (λ t. if_so t (suc k)) (no_more (suc k) n p)
place_far n (negsuc k) p = ap (λ t. if_so t (n - k)) (no_more (suc k) n p)

pub between_some : (n : ℕ) (y z : ℤ) (a b : ℕ) → place_of n y ≡ Some a → place_of n z ≡ Some b → 1 ≤ a → between (place_of n y) (place_of n z) ≡ Some (a - 1, b - (a - 1))
between_some n y z a b p q r =
    let e : suc b - a ≡ b - (a - 1) = omega arith in
    (λ i. between (p i) (q i)) ∙ ap (λ c. Some (a - 1, c)) e

between_no : (o : Option ℕ) → between o None ≡ None
between_no None = refl
between_no (Some a) = refl

pub between_first : (n : ℕ) (y z : ℤ) → place_of n y ≡ None → between (place_of n y) (place_of n z) ≡ None
between_first n y z p = ap (λ o. between o (place_of n z)) p

pub between_last : (n : ℕ) (y z : ℤ) → place_of n z ≡ None → between (place_of n y) (place_of n z) ≡ None
between_last n y z p = ap (between (place_of n y)) p ∙ between_no (place_of n y)

abbrev if_two : Bool → ℕ → ℕ → Option (ℕ × ℕ)
if_two t a b = elim t [ true ↦ Some (a, b) | false ↦ None ]

pub end_first : (n : ℕ) (z : ℤ) → pos 0 ≤ℤ z → nat_abs z ≤ n → end_span n z ≡ Some (0, nat_abs z)
end_first n (pos k) p q = ap (λ t. if_two t 0 k) (yes k n q)
end_first n (negsuc k) p q = absurd (omega (arith, ints, p))

pub end_last : (n : ℕ) (z : ℤ) → z <ℤ pos 0 → nat_abs z ≤ n → end_span n z ≡ Some (n - nat_abs z, nat_abs z)
end_last n (pos k) p q = absurd (omega (arith, ints, p))
end_last n (negsuc k) p q = ap (λ t. if_two t (n - suc k) (suc k)) (yes (suc k) n q)

pub end_far : (n : ℕ) (z : ℤ) → n < nat_abs z → end_span n z ≡ None
end_far n (pos k) p = ap (λ t. if_two t 0 k) (no_more k n p)
end_far n (negsuc k) p = ap (λ t. if_two t (n - suc k) (suc k)) (no_more (suc k) n p)

pub span_end : (names : Names) (n : ℕ) (z : ℤ) → span names n (integer z) ≡ end_span n z
span_end names n (pos k) = refl
span_end names n (negsuc k) = refl

abbrev chosen : Bool → Option (ℕ × ℕ) → Option (ℕ × ℕ)
chosen t o = elim t [ true ↦ o | false ↦ None ]

not_true : (b : Bool) → (b ≡ true → ⊥) → b ≡ false
not_true true p = absurd (p refl)
not_true false p = refl

pub list_yes : (names : Names) (n : ℕ) (e : Tree) (es : List Tree) → IsTrue (is_call names Builtin.List e) → es ≡ items_of e → list_span names n e ≡ span_in n es
list_yes names n e es p q = ap (λ t. chosen t (span_in n (items_of e))) p ∙ ap (span_in n) (sym q)

pub list_no : (names : Names) (n : ℕ) (e : Tree) → (IsTrue (is_call names Builtin.List e) → ⊥) → list_span names n e ≡ None
list_no names n e p = ap (λ t. chosen t (span_in n (items_of e))) (not_true (is_call names Builtin.List e) p)

abbrev in_span : List Tree → ℕ × ℕ → List Tree
in_span es s = take s.1 (drop s.0 es)

abbrev out_of : List Tree → ℕ × ℕ → List Tree
out_of es s = take s.0 es ++ drop (s.0 + s.1) es

pub inside_some : (names : Names) (es : List Tree) (k : Tree) (a c : ℕ) → span names (length es) k ≡ Some (a, c) → inside names es k ≡ Some (take c (drop a es))
inside_some names es k a c p = ap (option_map (in_span es)) p

pub inside_none : (names : Names) (es : List Tree) (k : Tree) → span names (length es) k ≡ None → inside names es k ≡ None
inside_none names es k p = ap (option_map (in_span es)) p

pub outside_some : (names : Names) (es : List Tree) (k : Tree) (a c : ℕ) → span names (length es) k ≡ Some (a, c) → outside names es k ≡ Some (take a es ++ drop (a + c) es)
outside_some names es k a c p = ap (option_map (out_of es)) p

pub outside_none : (names : Names) (es : List Tree) (k : Tree) → span names (length es) k ≡ None → outside names es k ≡ None
outside_none names es k p = ap (option_map (out_of es)) p

abbrev row_with : Tree → (ℕ × ℕ → List Tree) → Option (ℕ × ℕ) → Worked
row_with h f o = elim o [ None ↦ Stays | Some s ↦ Gives (call h (f s)) ]

abbrev row_of : Tree → Option (List Tree) → Worked
row_of h o = elim o [ None ↦ Stays | Some xs ↦ Gives (call h xs) ]

one_row : (h : Tree) (f : ℕ × ℕ → List Tree) (o : Option (ℕ × ℕ)) → row_with h f o ≡ row_of h (option_map f o)
one_row h f None = refl
one_row h f (Some s) = refl

taken_is : (names : Names) (h k : Tree) (ts : Trees) → taken names (normal h ts ∷ k ∷ []) ≡ row_of h (inside names (elements ts) k)
taken_is names h k ts = one_row h (in_span (elements ts)) (span names (length (elements ts)) k)

dropped_is : (names : Names) (h k : Tree) (ts : Trees) → dropped names (normal h ts ∷ k ∷ []) ≡ row_of h (outside names (elements ts) k)
dropped_is names h k ts = one_row h (out_of (elements ts)) (span names (length (elements ts)) k)

pub taken_some : (names : Names) (e h k : Tree) (ts : Trees) (xs : List Tree) → normal h ts ≡ e → inside names (elements ts) k ≡ Some xs → taken names (e ∷ k ∷ []) ≡ Gives (call h xs)
taken_some names e h k ts xs is p = subst (λ t. taken names (t ∷ k ∷ []) ≡ Gives (call h xs)) is (taken_is names h k ts ∙ ap (row_of h) p)

pub taken_none : (names : Names) (e h k : Tree) (ts : Trees) → normal h ts ≡ e → inside names (elements ts) k ≡ None → taken names (e ∷ k ∷ []) ≡ Stays
taken_none names e h k ts is p = subst (λ t. taken names (t ∷ k ∷ []) ≡ Stays) is (taken_is names h k ts ∙ ap (row_of h) p)

pub dropped_some : (names : Names) (e h k : Tree) (ts : Trees) (xs : List Tree) → normal h ts ≡ e → outside names (elements ts) k ≡ Some xs → dropped names (e ∷ k ∷ []) ≡ Gives (call h xs)
dropped_some names e h k ts xs is p = subst (λ t. dropped names (t ∷ k ∷ []) ≡ Gives (call h xs)) is (dropped_is names h k ts ∙ ap (row_of h) p)

pub dropped_none : (names : Names) (e h k : Tree) (ts : Trees) → normal h ts ≡ e → outside names (elements ts) k ≡ None → dropped names (e ∷ k ∷ []) ≡ Stays
dropped_none names e h k ts is p = subst (λ t. dropped names (t ∷ k ∷ []) ≡ Stays) is (dropped_is names h k ts ∙ ap (row_of h) p)

pub ruleset inside_steps = (inside_some, inside_none)

pub ruleset outside_steps = (outside_some, outside_none)

pub ruleset place_steps = (place_front, place_back, place_zero, place_far)

pub ruleset between_steps = (between_some, between_first, between_last)

pub ruleset end_steps = (end_first, end_last, end_far)

pub ruleset list_steps = (tree_steps, list_yes, list_no)

pub ruleset span_steps = (tree_steps, span_end)

pub ruleset taken_steps = (tree_steps, taken_some, taken_none)

pub ruleset dropped_steps = (tree_steps, dropped_some, dropped_none)
