use Rattle.std.proofs.Common.{◌≡◌, drop}
use Rattle.semantics.specs.Numbers.{gcd_of}
use Rattle.rows_numbers.proofs.divisors.divisor_of.Given as goal

abbrev pub invariant-loop-item : goal.invariant-loop-item
invariant-loop-item l = gcd_of (drop l.item-index l.items) l.divisor ≡ gcd_of l.items 0
