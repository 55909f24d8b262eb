-- What 128 bits hold, as std says it and as a test.
use Rattle.std.proofs.Common.{◌≡◌, ℤ, pos, negsuc, true, false, arith}
use Rattle.std.specs.Prelude.{FitsSigned}
use Rattle.std.specs.Int.{w128}
use Rattle.std.proofs.lemmas.Bool.{ltb-true, ltb-false}
use Rattle.expr_tree.specs.Limits.{in_range}

pub in_range-fits : (z : ℤ) → FitsSigned w128 z → in_range z ≡ true
in_range-fits (pos n) fits = grind (arith, ltb-true)
in_range-fits (negsuc n) fits = grind (arith, ltb-true)

pub in_range-unfit : (z : ℤ) → (FitsSigned w128 z → ⊥) → in_range z ≡ false
in_range-unfit (pos n) unfit = grind (arith, ltb-false)
in_range-unfit (negsuc n) unfit = grind (arith, ltb-false)

pub ruleset range_steps = (in_range-fits, in_range-unfit)
