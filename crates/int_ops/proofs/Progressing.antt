-- How many integers are left when one is taken.
use Rattle.std.proofs.Common.{◌≡◌, ◌<◌, ◌≤◌, ◌^◌, ◌+◌, ◌/◌, ◌∙◌, ℕ, zero, suc, ℤ, pos, ◌+ℤ◌, ◌-ℤ◌, ◌<ℤ◌, ◌≤ℤ◌, nat_abs, Bool, true, false, Option, Some, None, List, [], ◌∷◌, length, refl, sym, ap, subst, arith}
use Rattle.std.specs.Prelude.{FitsSigned, SomeIff}
use Rattle.std.specs.Int.{w128}
use Rattle.std.proofs.lemmas.Int.{ints, by_lt_z}
use Rattle.std.proofs.Math.Nat.{add-div_left, div-eq_of_lt, div-le_self}
use Rattle.expr_tree.specs.Tree.{Tree, integer}
use Rattle.semantics.specs.Control.{steps_to}
use Rattle.semantics.specs.Lists.{count_up}
use Rattle.int_ops.specs.Progressions.{reaches, walk}

steps_some : (a b d : ℤ) → reaches a b d ≡ true → steps_to a b d ≡ nat_abs (b -ℤ a) / nat_abs d + 1
steps_some a b d h = ap (λ (t : Bool). elim t as (λ _. ℕ) [ true ↦ nat_abs (b -ℤ a) / nat_abs d + 1 | false ↦ zero ]) h

steps_none : (a b d : ℤ) → reaches a b d ≡ false → steps_to a b d ≡ zero
steps_none a b d h = ap (λ (t : Bool). elim t as (λ _. ℕ) [ true ↦ nat_abs (b -ℤ a) / nat_abs d + 1 | false ↦ zero ]) h

below_up : (a b d : ℤ) → pos 0 <ℤ d → reaches a b d ≡ true → a ≤ℤ b
below_up a b d up h = grind (arith, ints)

above_down : (a b d : ℤ) → d <ℤ pos 0 → reaches a b d ≡ true → b ≤ℤ a
above_down a b d down h = grind (arith, ints)

reach_up : (a b d : ℤ) → pos 0 <ℤ d → a ≤ℤ b → reaches a b d ≡ true
reach_up a b d up h = grind (arith, ints)

reach_down : (a b d : ℤ) → d <ℤ pos 0 → b ≤ℤ a → reaches a b d ≡ true
reach_down a b d down h = grind (arith, ints)

past_up : (a b d : ℤ) → pos 0 <ℤ d → b <ℤ a → reaches a b d ≡ false
past_up a b d up h = grind (arith, ints)

past_down : (a b d : ℤ) → d <ℤ pos 0 → a <ℤ b → reaches a b d ≡ false
past_down a b d down h = grind (arith, ints)

no_step : (a b d : ℤ) → d ≤ℤ pos 0 → pos 0 ≤ℤ d → reaches a b d ≡ true → ⊥
no_step a b d h k r = grind (arith, ints)

quotient_more : (m n k : ℕ) → 0 < k → m ≡ k + n → m / k + 1 ≡ suc (n / k + 1)
quotient_more m n k p e = rw (e, add-div_left n p) (omega arith)

quotient_last : (m k : ℕ) → m < k → m / k + 1 ≡ suc zero
quotient_last m k p = rw (div-eq_of_lt p) refl

goes_on : (a b d : ℤ) → reaches a b d ≡ true → reaches (a +ℤ d) b d ≡ true → 0 < nat_abs d → nat_abs (b -ℤ a) ≡ nat_abs d + nat_abs (b -ℤ (a +ℤ d)) →
    steps_to a b d ≡ suc (steps_to (a +ℤ d) b d)
goes_on a b d h k p e = steps_some a b d h ∙ (quotient_more (nat_abs (b -ℤ a)) (nat_abs (b -ℤ (a +ℤ d))) (nat_abs d) p e ∙ ap suc (sym (steps_some (a +ℤ d) b d k)))

ends : (a b d : ℤ) → reaches a b d ≡ true → reaches (a +ℤ d) b d ≡ false → nat_abs (b -ℤ a) < nat_abs d → steps_to a b d ≡ suc (steps_to (a +ℤ d) b d)
ends a b d h k p = steps_some a b d h ∙ (quotient_last (nat_abs (b -ℤ a)) (nat_abs d) p ∙ ap suc (sym (steps_none (a +ℤ d) b d k)))

one_up : (a b d : ℤ) → reaches a b d ≡ true → pos 0 <ℤ d → steps_to a b d ≡ suc (steps_to (a +ℤ d) b d)
one_up a b d h up =
    let below : a ≤ℤ b = below_up a b d up h in
    by_lt_z b (a +ℤ d) (λ past. ends a b d h (past_up (a +ℤ d) b d up past) (omega (arith, ints)))
    (λ on. goes_on a b d h (reach_up (a +ℤ d) b d up on) (omega (arith, ints)) (omega (arith, ints)))

one_down : (a b d : ℤ) → reaches a b d ≡ true → d <ℤ pos 0 → steps_to a b d ≡ suc (steps_to (a +ℤ d) b d)
one_down a b d h down =
    let above : b ≤ℤ a = above_down a b d down h in
    by_lt_z (a +ℤ d) b (λ past. ends a b d h (past_down (a +ℤ d) b d down past) (omega (arith, ints)))
    (λ on. goes_on a b d h (reach_down (a +ℤ d) b d down on) (omega (arith, ints)) (omega (arith, ints)))

pub one_more : (a b d : ℤ) → reaches a b d ≡ true → steps_to a b d ≡ suc (steps_to (a +ℤ d) b d)
one_more a b d h = by_lt_z (pos 0) d (λ up. one_up a b d h up) (λ k. by_lt_z d (pos 0) (λ down. one_down a b d h down) (λ l. absurd (no_step a b d k l h)))

-- the next one is not in range
pub beyond : (a b d : ℤ) → FitsSigned w128 a → FitsSigned w128 b → (FitsSigned w128 (a +ℤ d) → ⊥) → reaches a b d ≡ true → reaches (a +ℤ d) b d ≡ false
beyond a b d f g unfit h =
    by_lt_z (pos 0) d (λ up. past_up (a +ℤ d) b d up (by_lt_z b (a +ℤ d) (λ past. past) (λ on. absurd (unfit (omega (arith, ints))))))
    (λ k. by_lt_z d (pos 0) (λ down. past_down (a +ℤ d) b d down (by_lt_z (a +ℤ d) b (λ past. past) (λ on. absurd (unfit (omega (arith, ints)))))) (λ l. absurd (no_step a b d k l h)))

counts : (a d : ℤ) (n : ℕ) → length (count_up a d n) ≡ n
counts a d zero = refl
counts a d (suc n) = ap suc (counts (a +ℤ d) d n)

few_steps : (a b d : ℤ) (t : Bool) → reaches a b d ≡ t → FitsSigned w128 a → FitsSigned w128 b → steps_to a b d ≤ 2 ^ 128
few_steps a b d true h f g = let e = steps_some a b d h in let q = div-le_self (nat_abs (b -ℤ a)) (nat_abs d) in omega (arith, ints, e, q)
few_steps a b d false h f g = let e = steps_none a b d h in omega (arith, e)

pub few : (a b d : ℤ) → FitsSigned w128 a → FitsSigned w128 b → length (count_up a d (steps_to a b d)) ≤ 2 ^ 128
few a b d f g = omega (arith, counts a d (steps_to a b d), few_steps a b d (reaches a b d) refl f g)

left_over : (o : Option ℤ) (a b d : ℤ) → FitsSigned w128 a → FitsSigned w128 b → SomeIff o (FitsSigned w128 (a +ℤ d)) (a +ℤ d) → reaches a b d ≡ true →
    walk o b d ≡ count_up (a +ℤ d) d (steps_to (a +ℤ d) b d)
left_over None a b d f g h r = sym (ap (count_up (a +ℤ d) d) (steps_none (a +ℤ d) b d (beyond a b d f g h r)))
left_over (Some x) a b d f g h r = ap (λ (y : ℤ). count_up y d (steps_to y b d)) h.1

-- one is taken, and the rest is left
taken : (o : Option ℤ) (a b d : ℤ) → FitsSigned w128 a → FitsSigned w128 b → SomeIff o (FitsSigned w128 (a +ℤ d)) (a +ℤ d) → reaches a b d ≡ true →
    walk (Some a) b d ≡ integer a ∷ walk o b d
taken o a b d f g h r = ap (count_up a d) (one_more a b d r) ∙ ap (λ es. integer a ∷ es) (sym (left_over o a b d f g h r))

-- none is taken
pub none_left : (a b d : ℤ) → reaches a b d ≡ false → walk (Some a) b d ≡ []
none_left a b d h = ap (count_up a d) (steps_none a b d h)

-- the same of numbers as the program passes them
pub takes : (o : Option ℤ) (es : List Tree) (a b d : ℤ) {x y z : ℤ} (r : Bool) → x ≡ a → y ≡ b → z ≡ d → FitsSigned w128 a → FitsSigned w128 b → es ≡ walk (Some a) b d →
    r ≡ reaches x y z → r ≡ true → SomeIff o (FitsSigned w128 (x +ℤ z)) (x +ℤ z) → es ≡ integer x ∷ walk o b d
takes o es a b d r p q s f g is reached holds adds =
    is ∙ (taken o a b d f g (subst (λ (v : ℤ). SomeIff o (FitsSigned w128 v) v) (λ i. p i +ℤ s i) adds) (sym (λ i. reaches (p i) (q i) (s i)) ∙ (sym reached ∙ holds)) ∙ ap (λ (v : ℤ). integer v ∷ walk o b d) (sym p))
