-- Powers and factorials that 128 bits hold.
use Rattle.std.proofs.Common.{◌≡◌, ◌<◌, ◌≤◌, ◌^◌, ◌*◌, ◌+◌, ◌∙◌, ℕ, zero, suc, ℤ, pos, negsuc, neg_ℤ, nat_abs, Bool, true, false, refl, sym, ap, arith}
use Rattle.std.proofs.Math.Nat.{pow-le-pow_right, pow-le-pow_left, pow-suc, one-le-mul, le_trans, mul_comm}
use Rattle.std.proofs.lemmas.Bool.{ltb-true, ltb-false}
use Rattle.std.proofs.lemmas.Nat.{mul-le}
use Rattle.std.proofs.lemmas.Int.{ints}
use Rattle.std.specs.Int.{int_pow}
use Rattle.std.proofs.lemmas.Bool.Decides.{nat_tests}
use Rattle.std.specs.Prelude.{◌==◌, ◌≤ℤ◌, ◌<ℤ◌, ltb, cond, Result, Ok, Err, [], ◌∷◌}
use Rattle.expr_tree.specs.Limits.{in_range}
use Rattle.expr_tree.specs.Tree.{integer}
use Rattle.semantics.specs.Worked.{Gives, TooWide, gives_int}
use Rattle.semantics.specs.Numbers.{int_power, factorial_of, factorial, is_even}
use Rattle.int_ops.specs.Exact.{Exactly, Answers}
use Rattle.int_ops.specs.declared.out_of_range.OutOfRange.{OutOfRange}

within : (z : ℤ) → in_range z ≡ true → gives_int z ≡ Gives (integer z)
within z e = rw (e, gives_int) refl

without : (z : ℤ) → in_range z ≡ false → gives_int z ≡ TooWide
without z e = rw (e, gives_int) refl

pub answers_exactly : (z : ℤ) (r : Result ℤ OutOfRange) → Exactly z r → Answers (gives_int z) r
answers_exactly z (Ok n) e = within z e.0 ∙ ap (λ m. Gives (integer m)) (sym e.1)
answers_exactly z (Err e) f = without z f

-- ---- powers
large : (a k : ℕ) → 1 < a → 127 < k → 2 ^ 128 ≤ a ^ k
large a k p q = le_trans (pow-le-pow_right {n = 2} (omega arith) {i = 128} {j = k} (omega arith)) (pow-le-pow_left {n = 2} {m = a} (omega arith) k)

one-pow : (k : ℕ) → 1 ^ k ≡ 1
one-pow zero = refl
one-pow (suc k) = rw (pow-suc 1 k, one-pow k) refl

zero-pow : (k : ℕ) → 0 < k → 0 ^ k ≡ 0
zero-pow zero p = absurd (omega arith)
zero-pow (suc k) p = rw (pow-suc 0 k) (omega arith)

pub not_below : (x : ℕ) → 2 ^ 127 ≤ x → ltb x (2 ^ 127) ≡ false
not_below x p = grind (arith, ltb-false)

not_above : (n : ℕ) → n ≤ 33 → ltb 33 n ≡ false
not_above n p = grind (arith, ltb-false)

not_zero : (k : ℕ) → (suc k == 0) ≡ false
not_zero k = grind (arith, nat_tests)

wide : (b : Bool) (x : ℕ) → 2 ^ 128 ≤ x → in_range (cond b (pos x) (neg_ℤ (pos x))) ≡ false
wide true x p = not_below x (omega arith)
wide false zero p = absurd (omega arith)
wide false (suc x) p = not_below x (omega arith)

pub beyond : (n : ℤ) (k : ℕ) → 1 < nat_abs n → 127 < k → in_range (int_pow n k) ≡ false
beyond (pos a) k p q = wide true (a ^ k) (large a k p q)
beyond (negsuc a) k p q = wide (is_even k) (suc a ^ k) (large (suc a) k p q)

pub even_unit : (n : ℤ) (k : ℕ) → nat_abs n ≤ 1 → 127 < k → is_even k ≡ true → int_pow n k ≡ pos (nat_abs n)
even_unit (pos zero) k p q e = ap pos (zero-pow k (omega arith))
even_unit (pos (suc zero)) k p q e = ap pos (one-pow k)
even_unit (pos (suc (suc a))) k p q e = absurd (omega arith)
even_unit (negsuc zero) k p q e = rw (e, one-pow k) refl
even_unit (negsuc (suc a)) k p q e = absurd (omega arith)

pub odd_unit : (n : ℤ) (k : ℕ) → nat_abs n ≤ 1 → 127 < k → is_even k ≡ false → int_pow n k ≡ n
odd_unit (pos zero) k p q e = ap pos (zero-pow k (omega arith))
odd_unit (pos (suc zero)) k p q e = ap pos (one-pow k)
odd_unit (pos (suc (suc a))) k p q e = absurd (omega arith)
odd_unit (negsuc zero) k p q e = rw (e, one-pow k) refl
odd_unit (negsuc (suc a)) k p q e = absurd (omega arith)

row_above : (a k : ℕ) (p q : Bool) → ltb 1 a ≡ p → ltb 127 k ≡ q → int_power (pos a) k ≡ gives_int (pos (a ^ k))
row_above a k true true e f = rw (e, f, int_power) (sym (without (pos (a ^ k)) (wide true (a ^ k) (large a k (omega (arith, ltb-true)) (omega (arith, ltb-true))))))
row_above a k true false e f = rw (e, f, int_power) (rw e refl)
row_above zero zero false q e f = refl
row_above zero (suc k) false q e f = rw (not_zero k, zero-pow (suc k) (omega arith), int_power) refl
row_above (suc zero) zero false q e f = refl
row_above (suc zero) (suc k) false q e f = rw (not_zero k, one-pow (suc k), int_power) refl
row_above (suc (suc a)) k false q e f = absurd (omega (arith, ltb-false))

row_below : (a k : ℕ) (p q r : Bool) → ltb 1 (suc a) ≡ p → ltb 127 k ≡ q → is_even k ≡ r → int_power (negsuc a) k ≡ gives_int (cond (is_even k) (pos (suc a ^ k)) (neg_ℤ (pos (suc a ^ k))))
row_below a k true true r e f g = rw (e, f, int_power) (sym (without (cond (is_even k) (pos (suc a ^ k)) (neg_ℤ (pos (suc a ^ k)))) (wide (is_even k) (suc a ^ k) (large (suc a) k (omega (arith, ltb-true)) (omega (arith, ltb-true))))))
row_below zero k true q r e f g = absurd (omega (arith, ltb-true))
row_below (suc a) k true false true e f g = rw (e, f, int_power) (rw (not_zero a, g) refl)
row_below (suc a) k true false false e f g = rw (e, f, int_power) (rw (not_zero a, g) refl)
row_below zero k false q true e f g = rw (g, one-pow k, int_power) refl
row_below zero k false q false e f g = rw (g, one-pow k, int_power) refl
row_below (suc a) k false q r e f g = absurd (omega (arith, ltb-false))

pub power_row : (n : ℤ) (k : ℕ) → int_power n k ≡ gives_int (int_pow n k)
power_row (pos a) k = row_above a k (ltb 1 a) (ltb 127 k) refl refl
power_row (negsuc a) k = row_below a k (ltb 1 (suc a)) (ltb 127 k) (is_even k) refl refl refl

pub power_answers : (n : ℤ) (k : ℕ) (r : Result ℤ OutOfRange) → Exactly (int_pow n k) r → Answers (int_power n k) r
power_answers n k r e = rw (power_row n k) (answers_exactly (int_pow n k) r e)

pub ruleset long_steps = (beyond, even_unit, odd_unit)

-- ---- factorials
factorial-positive : (n : ℕ) → 1 ≤ factorial_of n
factorial-positive zero = omega arith
factorial-positive (suc n) = one-le-mul (omega arith) (factorial-positive n)

factorial-grows : (m n : ℕ) → m ≤ n → factorial_of m ≤ factorial_of n
factorial-grows zero n p = factorial-positive n
factorial-grows (suc m) zero p = absurd (omega arith)
factorial-grows (suc m) (suc n) p = mul-le (suc m) (factorial_of m) (suc n) (factorial_of n) p (factorial-grows m n (omega arith))

last : factorial_of 33 ≡ 8683317618811886495518194401280000000
last = refl

next : factorial_of 34 ≡ 295232799039604140847618609643520000000
next = refl

pub factorial-fits : (n : ℕ) → n ≤ 33 → factorial_of n < 2 ^ 127
factorial-fits n p = omega (arith, factorial-grows n 33 p, last)

pub factorial-beyond : (n : ℕ) → 33 < n → 2 ^ 127 ≤ factorial_of n
factorial-beyond n p = omega (arith, factorial-grows 34 n p, next)

pub factorial-next : (n k : ℕ) → k < n → n ≤ 33 → factorial_of k * (k + 1) < 2 ^ 127
factorial-next n k p q = omega (arith, factorial-fits (suc k) (omega arith), mul_comm (suc k) (factorial_of k))

pub factorial-in_range : (z : ℤ) → pos 0 ≤ℤ z → z ≤ℤ pos 33 → in_range (pos (factorial_of (nat_abs z))) ≡ true
factorial-in_range (pos n) p q = let fits = factorial-fits n (omega (arith, ints)) in grind (arith, ltb-true)
factorial-in_range (negsuc n) p q = absurd (omega (arith, ints))

pub factorial-out : (z : ℤ) → pos 33 <ℤ z → in_range (pos (factorial_of (nat_abs z))) ≡ false
factorial-out (pos n) p = not_below (factorial_of n) (factorial-beyond n (omega (arith, ints)))
factorial-out (negsuc n) p = absurd (omega (arith, ints))

pub factorial-row : (z : ℤ) → pos 0 ≤ℤ z → z ≤ℤ pos 33 → factorial (integer z ∷ []) ≡ Gives (integer (pos (factorial_of (nat_abs z))))
factorial-row (pos n) p q = rw (not_above n (omega (arith, ints)), factorial) refl
factorial-row (negsuc n) p q = absurd (omega (arith, ints))

pub ruleset factorial_steps = (factorial-next, factorial-in_range, factorial-out, factorial-row)
