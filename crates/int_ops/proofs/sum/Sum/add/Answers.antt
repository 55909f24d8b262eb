use Rattle.std.proofs.Common.{arith, sym, ◌+ℤ◌}
use Rattle.std.specs.Int.{w128, cast_signed, cast_unsigned}
use Rattle.std.proofs.lemmas.Int.{ints}
use Rattle.int_ops.proofs.Turns.{added}
use Rattle.int_ops.proofs.sum.Sum.add.Goals as goal

pub returns : goal.returns
returns c =
    let turns = cast_signed w128 (cast_unsigned w128 c.self.inside.turns) +ℤ cast_signed w128 (cast_unsigned w128 c.carry-sum.result.turns) in
    added c.args.self.now c.self.inside.value c.self.inside.turns c.carry-sum.result.value c.carry-sum.result.turns c.args.more
    (cast_signed w128 (cast_unsigned w128 c.carry-sum.result.value)) (cast_signed w128 (cast_unsigned w128 turns))
    (sym c.self.view_is) (omega (arith, ints)) (omega (arith, ints)) (omega (arith, ints, c.carry-sum.ensures.sum))
