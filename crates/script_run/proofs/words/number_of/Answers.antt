use Rattle.std.proofs.Common.{◌≤◌, ◌^◌, arith, get_or}
use Rattle.name_table.proofs.Digits.{tens_rise, digit_at, digit_bounds}
use Rattle.script_run.proofs.words.number_of.Goals as goal

pub overflow_mul-number : goal.overflow_mul-number
overflow_mul-number c =
    let rise : 10 ^ c.loop-digit.digit-index ≤ 10 ^ 8 = tens_rise c.loop-digit.digit-index 8 (omega (arith, c.requires.short)) in
    omega (arith, rise, c.loop-digit.invariant.small)

pub overflow_add-number : goal.overflow_add-number
overflow_add-number c =
    let rise : 10 ^ c.loop-digit.digit-index ≤ 10 ^ 8 = tens_rise c.loop-digit.digit-index 8 (omega (arith, c.requires.short)) in
    let digit = digit_bounds (get_or c.args.digits.now c.loop-digit.digit-index 0) (digit_at c.args.digits.now c.loop-digit.digit-index c.requires.digits c.loop-digit-test.true) in
    omega (arith, rise, c.loop-digit.invariant.small, c.from.ensures, digit.1)
