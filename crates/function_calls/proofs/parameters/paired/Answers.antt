use Rattle.function_calls.proofs.Arguments.{pairs_kept_at}
use Rattle.function_calls.proofs.parameters.paired.Goals as goal

pub loop-i-preserved : goal.loop-i-preserved
loop-i-preserved c = pairs_kept_at _ _ _ _ _ _ _ c.in_ok-push.ensures.ok c.in_ok-copies.ensures c.loop-i.invariant c.loop-i-test.true c.if-symbols-args.false
