-- A sum that is carried as 128 bits and turns of 2^128.
use Rattle.std.proofs.Common.{◌≡◌, ◌^◌, ℤ, pos, ◌+ℤ◌, ◌*ℤ◌, arith}
use Rattle.std.proofs.Math.IntN.{+ℤ_assoc}
use Rattle.std.proofs.lemmas.Int.{ints}
use Rattle.std.specs.Prelude.{List, ◌∷◌, ℕ, ◌≤◌, ◌+◌, ◌*◌, nat_abs, FitsSigned}
use Rattle.std.specs.Int.{w128}
use Rattle.int_ops.specs.Totals.{total}

pub added : (now v t w u more w2 t2 : ℤ) → now ≡ v +ℤ (t *ℤ pos (2 ^ 128)) → w2 ≡ w → t2 ≡ t +ℤ u → w +ℤ (u *ℤ pos (2 ^ 128)) ≡ v +ℤ more → w2 +ℤ (t2 *ℤ pos (2 ^ 128)) ≡ now +ℤ more
added now v t w u more w2 t2 view first second sum = omega (arith, ints)

pub total-next : (m n v : ℤ) (xs rest : List ℤ) → xs ≡ v ∷ rest → m ≡ n +ℤ v → m +ℤ total rest ≡ n +ℤ total xs
total-next m n v xs rest is sum = rw (is, sum) (+ℤ_assoc n v (total rest))

pub total-small : (m n v : ℤ) (i : ℕ) → m ≡ n +ℤ v → nat_abs n ≤ i * 2 ^ 127 → FitsSigned w128 v → nat_abs m ≤ (i + 1) * 2 ^ 127
total-small m n v i sum small fits = omega (arith, ints)
