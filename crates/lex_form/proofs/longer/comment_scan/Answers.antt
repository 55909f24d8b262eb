use Rattle.std.proofs.Common.{arith, sym, ◌∙◌}
use Rattle.lex_form.proofs.Lexing.{opened, passed, closed}
use Rattle.lex_form.proofs.longer.comment_scan.Goals as goal
use Rattle.lex_form.proofs.longer.comment_scan.Goals.{then-opens, else-opens+then-not-closes, else-opens+else-not-closes+then-inner-gt0}

pub loop-byte-preserved : goal.loop-byte-preserved
loop-byte-preserved c = elim c.if-opens.branch [
  | then-opens w ↦ record {
    counted = omega (arith, c.loop-byte.invariant.counted);
    nested = omega (arith, c.loop-byte.invariant.nested, w.inner-is);
    rest = opened _ _ _ _ _ _ _ _ c.loop-byte-test.true (sym w.if-opens.true ∙ c.opens.ensures) w.inner-is w.before-is c.loop-byte.invariant.rest;
  }
  | else-opens+then-not-closes w ↦ record {
    counted = omega (arith, c.loop-byte.invariant.counted);
    nested = omega (arith, c.loop-byte.invariant.nested, w.inner-is);
    rest = passed _ _ _ _ _ _ _ _ c.loop-byte-test.true (sym w.if-opens.false ∙ c.opens.ensures) (sym w.if-not-closes.true ∙ w.closes.ensures) w.inner-is w.before-is c.loop-byte.invariant.rest;
  }
  | else-opens+else-not-closes+then-inner-gt0 w ↦ record {
    counted = omega (arith, c.loop-byte.invariant.counted);
    nested = omega (arith, c.loop-byte.invariant.nested, w.inner-is);
    rest = closed _ _ _ _ _ _ _ _ c.loop-byte-test.true (sym w.if-opens.false ∙ c.opens.ensures) (sym w.if-not-closes.false ∙ w.closes.ensures) (omega (arith, w.inner-is, w.if-inner-gt0.true)) w.before-is c.loop-byte.invariant.rest;
  }
]
