-- What division leaves, rounded down.
use Rattle.std.proofs.Common.{◌≡◌, ◌<◌, suc, ◌+◌, ◌*◌, ◌/◌, ◌%◌, ℕ, zero, ℤ, pos, negsuc, ◌-ℤ◌, ◌*ℤ◌, neg_ℤ, ◌-◌, ◌<ℤ◌, arith}
use Rattle.std.specs.Int.{int_rem_euclid}
use Rattle.std.proofs.lemmas.Int.{ints}
use Rattle.std.proofs.lemmas.Nat.{div-add-mod', mod_below}
use Rattle.std.proofs.Math.Nat.{mul-suc, mul_comm}
use Rattle.semantics.specs.Numbers.{quotient_down}
use Rattle.int_ops.proofs.Ranges.{in_range-fits, in_range-unfit}

above_zero : (n m q r : ℕ) → q * suc m + r ≡ n → pos r ≡ pos n -ℤ (pos (suc m * q))
above_zero n m q r split = omega (arith, ints, mul_comm q (suc m))

below_zero : (n m q r : ℕ) → q * suc m + r ≡ n → r < suc m → pos (suc m - 1 - r) ≡ negsuc n -ℤ neg_ℤ (pos (suc m * suc q))
below_zero n m q r split below = omega (arith, ints, mul_comm q (suc m), mul-suc (suc m) q)

pub euclid : (a b : ℤ) → pos 0 <ℤ b → int_rem_euclid a b ≡ a -ℤ (b *ℤ quotient_down a b)
euclid (pos n) (pos (suc m)) p = above_zero n m (n / suc m) (n % suc m) (div-add-mod' n (suc m))
euclid (negsuc n) (pos (suc m)) p = below_zero n m (n / suc m) (n % suc m) (div-add-mod' n (suc m)) (mod_below n (suc m) (omega arith))
euclid a (pos zero) p = absurd (omega (arith, ints))
euclid a (negsuc m) p = absurd (omega (arith, ints))

pub ruleset modulo_steps = (in_range-fits, in_range-unfit, euclid)
