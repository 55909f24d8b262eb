use Rattle.std.proofs.Common.{◌≡◌, drop}
use Rattle.crit_locks.specs.Holdings.{first_held}
use Rattle.crit_locks.proofs.locks.first_held.Given as goal

abbrev pub invariant-loop-lock : goal.invariant-loop-lock
invariant-loop-lock l = first_held l.held (drop l.lock-index l.locks) ≡ first_held l.held l.locks
