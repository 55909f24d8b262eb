use Rattle.std.proofs.Common.{sym, ◌∙◌}
use Rattle.eval_seq.proofs.Driving.{begins_err, begins_out, begins_value}
use Rattle.eval_seq.proofs.StepLaws.{built_none, built_on, built_from, built_sent}
use Rattle.eval_seq.proofs.steps.built_in.Goals as goal

pub returns-in_default-clause-begins : goal.returns-in_default-clause-begins
returns-in_default-clause-begins g c = λ n. built_none c.args.symbol c.args.items.now c.args.whole.now (sym c.role_of.ensures ∙ c.in_default.is)

pub returns-in_err-reply-clause-begins : goal.returns-in_err-reply-clause-begins
returns-in_err-reply-clause-begins g c =
    λ n. begins_err c.from_residual.ensures.1
    (begins_out (built_sent c.args.symbol c.args.items.now c.args.whole.now (sym c.role_of.ensures ∙ c.in-Some.is) (rw (c.if-changes.true, c.as_slice.ensures) at c.changes.ensures.uses)) (c.in_err-reply.ensures.stepped n))

pub returns-then-changes-clause-begins : goal.returns-then-changes-clause-begins
returns-then-changes-clause-begins g c =
    λ n. begins_value c.in_ok-reply.reply (built_sent c.args.symbol c.args.items.now c.args.whole.now (sym c.role_of.ensures ∙ c.in-Some.is) (rw (c.if-changes.true, c.as_slice.ensures) at c.changes.ensures.uses)) (c.in_ok-reply.ensures.stepped n)

pub returns-then-is_outward-clause-begins : goal.returns-then-is_outward-clause-begins
returns-then-is_outward-clause-begins g c =
    λ n. built_from c.args.symbol c.args.items.now c.args.whole.now (sym c.role_of.ensures ∙ c.in-Some.is) (rw (c.if-changes.false, c.as_slice.ensures) at c.changes.ensures.uses) (rw c.as_slice-then-is_outward.ensures at c.outward_start.ensures.opens)

pub returns-clause-begins : goal.returns-clause-begins
returns-clause-begins g c =
    λ n. built_on c.args.symbol c.args.items.now c.args.whole.now (sym c.role_of.ensures ∙ c.in-Some.is) (rw (c.if-changes.false, c.as_slice.ensures) at c.changes.ensures.uses) c.row_start.ensures
