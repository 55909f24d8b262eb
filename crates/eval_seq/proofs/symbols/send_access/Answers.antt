use Rattle.std.proofs.Common.{sym, ◌∙◌}
use Rattle.eval_seq.proofs.SymbolLaws.{sent_identical, sent_lost, sent_out, sent_value}
use Rattle.eval_seq.proofs.symbols.send_access.Goals as goal

pub returns-in_err-sent-clause-stepped : goal.returns-in_err-sent-clause-stepped
returns-in_err-sent-clause-stepped g c = λ n. sent_lost c.from_residual.ensures.1

pub returns-then-equals-clause-stepped : goal.returns-then-equals-clause-stepped
returns-then-equals-clause-stepped g c = λ n. sent_identical (rw c.in_ok-sent.ensures at c.in-Ok.ensures.called) (sym c.equals.ensures ∙ c.if-equals.true)

pub returns-else-equals-clause-stepped : goal.returns-else-equals-clause-stepped
returns-else-equals-clause-stepped g c = λ n. sent_value (rw c.in_ok-sent.ensures at c.in-Ok.ensures.called) (sym c.equals.ensures ∙ c.if-equals.false)

pub returns-in-Err-clause-stepped : goal.returns-in-Err-clause-stepped
returns-in-Err-clause-stepped g c = λ n. sent_out (rw c.in_ok-sent.ensures at c.in-Err.ensures.called)
