use Rattle.std.proofs.Common.{◌≡◌, ◌≤◌, ◌+◌, ◌++◌, map, take, drop, length, vec_len, vec_capacity}
use Rattle.crit_locks.specs.Holdings.{held_by}
use Rattle.crit_locks.proofs.locks.take_all.Given as goal

abbrev pub invariant-loop-lock : goal.invariant-loop-lock
invariant-loop-lock l =
    (l.held.items ≡ l.fn.held.items ++ map (held_by l.kernel) (take l.lock-index l.locks))
    × (vec_capacity l.held ≡ vec_capacity l.fn.held)
    × (vec_len l.held + length (drop l.lock-index l.locks) ≤ vec_capacity l.held)
