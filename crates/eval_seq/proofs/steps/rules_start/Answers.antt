use Rattle.std.proofs.Common.{sym, ◌∙◌, ◌==◌, ap, length}
use Rattle.eval_seq.proofs.RowStarts.{opens_lost, rules_none, rules_machine}
use Rattle.eval_seq.proofs.steps.rules_start.Goals as goal

pub returns-then-is_empty : goal.returns-then-is_empty
returns-then-is_empty c = λ set. rules_none c.args.rules.now c.args.whole.now (sym (c.is_empty.ensures ∙ ap (λ rs. length rs == 0) c.as_slice.ensures) ∙ c.if-is_empty.true)

pub returns-in_err-frame : goal.returns-in_err-frame
returns-in_err-frame c = λ set. opens_lost c.from_residual.ensures.1

pub returns : goal.returns
returns c = λ set. rules_machine c.args.rules.now c.args.whole.now c.in_ok-frame.ensures
