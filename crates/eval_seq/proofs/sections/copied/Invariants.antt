use Rattle.std.proofs.Common.{◌≡◌, ◌++◌, drop}
use Rattle.eval_seq.proofs.sections.copied.Given as goal

abbrev pub invariant-loop-lock : goal.invariant-loop-lock
invariant-loop-lock l = l.copy ++ drop l.lock-index l.locks ≡ l.locks
