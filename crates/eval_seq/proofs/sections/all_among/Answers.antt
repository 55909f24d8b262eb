use Rattle.std.proofs.Common.{refl, sym, ◌∙◌}
use Rattle.eval_seq.proofs.Among.{held_next, not_held, all_held}
use Rattle.eval_seq.proofs.sections.all_among.Goals as goal

pub loop-i-init : goal.loop-i-init
loop-i-init c = refl

pub returns-then-not-is_among : goal.returns-then-not-is_among
returns-then-not-is_among c = not_held c.args.locks.now c.args.held.now c.loop-i.i (record { base = 0; number = 0 }) c.loop-i-test.true (sym c.is_among.ensures ∙ c.if-not-is_among.true) c.loop-i.invariant

pub loop-i-preserved : goal.loop-i-preserved
loop-i-preserved c = held_next c.args.locks.now c.args.held.now c.loop-i.i (record { base = 0; number = 0 }) c.loop-i-test.true (sym c.is_among.ensures ∙ c.if-not-is_among.false) c.loop-i.invariant

pub returns : goal.returns
returns c = all_held c.args.locks.now c.args.held.now c.loop-i.i c.loop-i-test.false c.loop-i.invariant
