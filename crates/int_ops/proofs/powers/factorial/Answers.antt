use Rattle.std.proofs.Common.{◌<◌, ◌^◌, arith}
use Rattle.std.proofs.lemmas.Int.{ints}
use Rattle.semantics.specs.Numbers.{factorial_of}
use Rattle.int_ops.proofs.Growth.{factorial-fits}
use Rattle.int_ops.proofs.powers.factorial.Goals as goal

pub overflow_cast-result : goal.overflow_cast-result
overflow_cast-result c =
    let small : factorial_of c.loop-factor.factor < 2 ^ 127 = factorial-fits c.loop-factor.factor (omega (arith, ints)) in
    omega (arith, ints)
