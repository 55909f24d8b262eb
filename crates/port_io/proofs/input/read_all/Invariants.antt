use Rattle.std.proofs.Common.{◌-◌, ◌≤◌, length}
use Rattle.std.specs.Io.KnownBytes.{Consumes}
use Rattle.port_io.proofs.input.read_all.Given as goal

-- the bytes so far were read, there are not too many, and the count of faults did not fall
abbrev pub invariant-loop-count : goal.invariant-loop-count
invariant-loop-count g l =
    let S = g.S.Source in
    Consumes (S.left l.fn.source) (S.left l.source) l.bytes.items
    × (length l.bytes.items ≤ l.limit)
    × (S.faults l.fn.source ≤ S.faults l.source)
    × (S.never_fails l.fn.source → S.never_fails l.source)

abbrev pub decreases-loop-count : goal.decreases-loop-count
decreases-loop-count g l = l.limit - length l.bytes.items
