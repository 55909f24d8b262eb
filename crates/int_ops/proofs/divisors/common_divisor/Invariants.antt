use Rattle.std.proofs.Common.{◌≡◌, ℕ, suc}
use Rattle.std.specs.Int.{IsGcd}
use Rattle.semantics.specs.Numbers.{common_divisor}
use Rattle.int_ops.proofs.divisors.common_divisor.Given as goal

abbrev pub invariant-loop-rest : goal.invariant-loop-rest
invariant-loop-rest l = record {
  row : common_divisor (suc l.rest) l.last l.rest ≡ common_divisor (suc l.fn.b) l.fn.a l.fn.b;
  greatest : (g : ℕ) → IsGcd l.last l.rest g → IsGcd l.fn.a l.fn.b g;
}

abbrev pub decreases-loop-rest : goal.decreases-loop-rest
decreases-loop-rest l = l.rest
