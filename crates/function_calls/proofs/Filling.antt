-- Slots and what fills them.
use Rattle.std.proofs.Common.{◌≡◌, ◌≢◌, ℕ, zero, suc, ◌-◌, ◌<◌, ◌≤◌, refl, ap, subst, ◌∙◌, Bool, true, false, List, [], ◌∷◌, Option, Some, None, length, take, drop, arith}
use Rattle.std.specs.Prelude.{ℤ, pos, negsuc, nat_abs, ltb, ◌<ℤ◌, ◌≤ℤ◌}
use Rattle.std.proofs.lemmas.Bool.{lt-ltb, le-ltb}
use Rattle.std.proofs.lemmas.Int.{ints}
use Rattle.expr_tree.specs.Tree.{Tree, Trees, integer, string, symbol, normal, trees}
use Rattle.expr_tree.proofs.Callers.{tree_steps}
use Rattle.semantics.specs.declared.builtin.Builtin.{Builtin}
use Rattle.semantics.specs.Names.{Names, is_name, is_call, items_of}
use Rattle.semantics.specs.InPlace.{as_one, nth, slot_number, slot_of, filled, is_pure_function, fill_slots, fill_in_items}

pub number_some : (z : ℤ) → pos 0 <ℤ z → slot_number (integer z ∷ []) ≡ Some (nat_abs z - 1)
number_some (pos zero) p = absurd (omega (arith, ints, p))
number_some (pos (suc n)) p = let e : n ≡ suc n - 1 = omega arith in ap Some e
number_some (negsuc n) p = absurd (omega (arith, ints, p))

pub number_below : (z : ℤ) → z ≤ℤ pos 0 → slot_number (integer z ∷ []) ≡ None
number_below (pos zero) p = refl
number_below (pos (suc n)) p = absurd (omega (arith, ints, p))
number_below (negsuc n) p = refl

pub number_of_many : (e f : Tree) (es : List Tree) → slot_number (e ∷ f ∷ es) ≡ None
number_of_many (integer (pos zero)) f es = refl
number_of_many (integer (pos (suc n))) f es = refl
number_of_many (integer (negsuc n)) f es = refl
number_of_many (string t) f es = refl
number_of_many (symbol s) f es = refl
number_of_many (normal h ts) f es = refl

pub ruleset number_steps = (tree_steps, number_some, number_below, number_of_many)

abbrev argument_or : Tree → Option Tree → Tree
argument_or e o = elim o [ None ↦ e | Some x ↦ x ]

abbrev fills : Names → List Tree → Tree → ℕ → Bool → Bool → Tree
fills names args e n slot within = elim slot [ true ↦ argument_or e (nth args (suc n)) | false ↦ elim within [ true ↦ as_one names (drop n args) | false ↦ e ] ]

nth_far : (args : List Tree) (n : ℕ) → length args ≤ n → nth args (suc n) ≡ None
nth_far [] n far = refl
nth_far (a ∷ args) zero far = absurd (omega (arith, far))
nth_far (a ∷ args) (suc n) far = nth_far args n (omega (arith, far))

nth_within : (names : Names) (args : List Tree) (n : ℕ) (e : Tree) → n < length args → argument_or e (nth args (suc n)) ≡ as_one names (take 1 (drop n args))
nth_within names [] n e within = absurd (omega (arith, within))
nth_within names (a ∷ args) zero e within = refl
nth_within names (a ∷ args) (suc n) e within = nth_within names args n e (omega (arith, within))

pub filled_far : (names : Names) (args : List Tree) (e : Tree) (n : ℕ) → length args ≤ n → filled names args e n ≡ e
filled_far names args e n far = go (is_call names Builtin.Slot e)
  where
    go : (t : Bool) → fills names args e n t (ltb n (length args)) ≡ e
    go true = ap (argument_or e) (nth_far args n far)
    go false = ap (fills names args e n false) (le-ltb n (length args) far)

pub filled_one : (names : Names) (args : List Tree) (e : Tree) (n : ℕ) → n < length args → is_call names Builtin.Slot e ≡ true → filled names args e n ≡ as_one names (take 1 (drop n args))
filled_one names args e n within slot = ap (λ t. fills names args e n t (ltb n (length args))) slot ∙ nth_within names args n e within

pub filled_rest : (names : Names) (args : List Tree) (e : Tree) (n : ℕ) → n < length args → is_call names Builtin.Slot e ≡ false → filled names args e n ≡ as_one names (drop n args)
filled_rest names args e n within slot =
    ap (λ t. fills names args e n t (ltb n (length args))) slot ∙ ap (fills names args e n false) (lt-ltb n (length args) within)

pub ruleset run_steps = (tree_steps, filled_far, filled_one, filled_rest)

abbrev level : Names → List Tree → Tree → Trees → Option ℕ → Bool → Tree
level names args h es slot pure =
    elim slot [
      | Some n ↦ filled names args (normal h es) n
      | None ↦ elim pure [ true ↦ normal h es | false ↦ normal (fill_slots names args h) (fill_in_items names args es) ]
    ]

pub fill_of_slot : (names : Names) (args : List Tree) (e h : Tree) (es : Trees) (n : ℕ) → normal h es ≡ e → slot_of names e ≡ Some n → fill_slots names args e ≡ filled names args e n
fill_of_slot names args e h es n is slot =
    subst (λ f. slot_of names f ≡ Some n → fill_slots names args f ≡ filled names args f n) is (λ s. ap (λ t. level names args h es t (is_pure_function names h es)) s) slot

pub fill_of_function : (names : Names) (args : List Tree) (e h : Tree) (es : Trees) → normal h es ≡ e → slot_of names e ≡ None → is_pure_function names h es ≡ true → fill_slots names args e ≡ e
fill_of_function names args e h es is slot pure =
    subst (λ f. slot_of names f ≡ None → fill_slots names args f ≡ f) is (λ s i. level names args h es (s i) (pure i)) slot

pub fill_of_level : (names : Names) (args : List Tree) (e h : Tree) (es : Trees) → normal h es ≡ e → slot_of names e ≡ None → is_pure_function names h es ≡ false
    → fill_slots names args e ≡ normal (fill_slots names args h) (fill_in_items names args es)
fill_of_level names args e h es is slot other =
    subst (λ f. slot_of names f ≡ None → fill_slots names args f ≡ normal (fill_slots names args h) (fill_in_items names args es)) is (λ s i. level names args h es (s i) (other i)) slot

pub one_element : (names : Names) (h : Tree) (es : List Tree) → length es ≡ 1 → is_pure_function names h (trees es) ≡ is_name names Builtin.Function h
one_element names h [] one = absurd (omega (arith, one))
one_element names h (e ∷ []) one = refl
one_element names h (e ∷ f ∷ es) one = absurd (omega (arith, one))

pub other_elements : (names : Names) (h : Tree) (es : List Tree) → length es ≢ 1 → is_pure_function names h (trees es) ≡ false
other_elements names h [] other = refl
other_elements names h (e ∷ []) other = absurd (other refl)
other_elements names h (e ∷ f ∷ es) other = refl

pub ruleset function_steps = (tree_steps, one_element, other_elements)

pub ruleset fill_steps = (tree_steps, fill_of_slot, fill_of_function, fill_of_level)
