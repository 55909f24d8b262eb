-- A number as an answer.
use Rattle.std.proofs.Common.{◌≡◌, ◌≤◌, ◌<◌, ℕ, ◌^◌, ℤ, pos, Bool, true, false, refl, ap, arith}
use Rattle.std.specs.Ordering.{int_eq}
use Rattle.std.proofs.lemmas.Bool.{ltb-true, ltb-false}
use Rattle.std.proofs.lemmas.Bool.Decides.{Decides-int_eq}
use Rattle.expr_tree.specs.Limits.{in_range}
use Rattle.expr_tree.specs.Tree.{integer}
use Rattle.semantics.specs.Worked.{Gives, TooWide, gives_int}

pub gives_within : (z : ℤ) → in_range z ≡ true → gives_int z ≡ Gives (integer z)
gives_within z e = ap (λ b. elim b [ true ↦ Gives (integer z) | false ↦ TooWide ]) e

pub gives_too_wide : (z : ℤ) → in_range z ≡ false → gives_int z ≡ TooWide
gives_too_wide z e = ap (λ b. elim b [ true ↦ Gives (integer z) | false ↦ TooWide ]) e

pub small_in_range : (n : ℕ) → n < 2 ^ 127 → in_range (pos n) ≡ true
small_in_range n h = grind (arith, ltb-true)

pub large_out_of_range : (n : ℕ) → 2 ^ 127 ≤ n → in_range (pos n) ≡ false
large_out_of_range n h = grind (arith, ltb-false)

pub is_zero : (n : ℤ) → n ≡ pos 0 → int_eq n (pos 0) ≡ true
is_zero n e = rw e

not_true : (b : Bool) → (b ≡ true → ⊥) → b ≡ false
not_true true h = absurd (h refl)
not_true false h = refl

pub is_not_zero : (n : ℤ) → (n ≡ pos 0 → ⊥) → int_eq n (pos 0) ≡ false
is_not_zero n other = not_true (int_eq n (pos 0)) (λ e. other ((Decides-int_eq n (pos 0)).0 e))

pub ruleset judged_steps = (gives_within, gives_too_wide, small_in_range, large_out_of_range)

pub ruleset zero_steps = (is_zero, is_not_zero)
