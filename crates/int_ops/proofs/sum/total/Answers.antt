use Rattle.std.proofs.Common.{rules, arith, ◌≡◌, ◌+◌, ◌∷◌, drop, get_or, drop-cons, add-one, pos, ◌+ℤ◌, ◌∙◌}
use Rattle.std.specs.Prelude.{FitsSigned}
use Rattle.std.specs.Int.{w128}
use Rattle.std.proofs.lemmas.Int.{ints}
use Rattle.int_ops.proofs.Turns.{total-next, total-small}
use Rattle.int_ops.proofs.sum.total.Goals as goal

pub loop-number-preserved : goal.loop-number-preserved
loop-number-preserved c =
    let xs = c.args.numbers.now in
    let i = c.loop-number.number-index in
    let v = get_or xs i (pos 0) in
    let fits : FitsSigned w128 v = search rules in
    let added : c.add.new.self ≡ c.loop-number.sum +ℤ v = omega (arith, ints, c.add.ensures) in
    record {
      so_far = total-next c.add.new.self c.loop-number.sum v (drop i xs) (drop (i + 1) xs) (rw (add-one i) (drop-cons xs i (pos 0) c.loop-number-test.true)) added ∙ c.loop-number.invariant.so_far;
      small = total-small c.add.new.self c.loop-number.sum v i added c.loop-number.invariant.small fits;
    }
