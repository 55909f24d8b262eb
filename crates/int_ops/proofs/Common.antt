-- Greatest common divisors by remainders.
use Rattle.std.proofs.Common.{◌≡◌, ◌<◌, ◌%◌, ℕ, zero, suc, refl, arith}
use Rattle.std.proofs.lemmas.Nat.{mod_below}
use Rattle.semantics.specs.Numbers.{common_divisor}

-- more divisions than the second number change nothing
pub enough : (m n a b : ℕ) → b < m → b < n → common_divisor m a b ≡ common_divisor n a b
enough zero n a b p q = absurd (omega arith)
enough (suc m) zero a b p q = absurd (omega arith)
enough (suc m) (suc n) a zero p q = refl
enough (suc m) (suc n) a (suc b) p q = enough m n (suc b) (a % suc b) (omega (arith, mod_below a (suc b) (omega arith))) (omega (arith, mod_below a (suc b) (omega arith)))

pub common_divisor-step : (a b : ℕ) → 0 < b → common_divisor (suc (a % b)) b (a % b) ≡ common_divisor (suc b) a b
common_divisor-step a zero p = absurd (omega arith)
common_divisor-step a (suc b) p = enough (suc (a % suc b)) (suc b) (suc b) (a % suc b) (omega arith) (omega (arith, mod_below a (suc b) (omega arith)))
