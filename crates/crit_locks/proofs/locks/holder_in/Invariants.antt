use Rattle.std.proofs.Common.{◌≡◌, drop}
use Rattle.crit_locks.specs.Holdings.{holder_of}
use Rattle.crit_locks.proofs.locks.holder_in.Given as goal

abbrev pub invariant-loop-entry : goal.invariant-loop-entry
invariant-loop-entry l = holder_of (drop l.entry-index l.held) l.lock ≡ holder_of l.held l.lock
