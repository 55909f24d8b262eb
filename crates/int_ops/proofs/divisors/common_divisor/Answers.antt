use Rattle.std.proofs.Common.{◌∙◌, arith}
use Rattle.std.proofs.lemmas.Nat.Gcd.{IsGcd-from_zero, IsGcd-from_mod}
use Rattle.int_ops.proofs.Common.{common_divisor-step}
use Rattle.int_ops.proofs.divisors.common_divisor.Goals as goal

pub loop-rest-preserved : goal.loop-rest-preserved
loop-rest-preserved c = record {
  row = common_divisor-step c.loop-rest.last c.loop-rest.rest (omega arith) ∙ c.loop-rest.invariant.row;
  greatest = λ g h. c.loop-rest.invariant.greatest g (IsGcd-from_mod _ _ g h);
}

pub returns-clause-greatest : goal.returns-clause-greatest
returns-clause-greatest c = c.loop-rest.invariant.greatest _ (IsGcd-from_zero _ _ (omega arith))
