use Rattle.std.proofs.Common.{arith}
use Rattle.lex_form.proofs.Lexing.{wide}
use Rattle.lex_form.proofs.leaves.fits.Goals as goal

pub returns-then-value-ge-NUMBERS : goal.returns-then-value-ge-NUMBERS
returns-then-value-ge-NUMBERS c =
    wide c.args.digits.now c.loop-digit.value c.loop-digit.digit-index c.loop-digit-test.true c.loop-digit.invariant.rest
    (omega (arith, c.saturating_mul.ensures, c.saturating_sub.ensures, c.from.ensures, c.saturating_add-value.ensures, c.if-value-ge-NUMBERS.true))
