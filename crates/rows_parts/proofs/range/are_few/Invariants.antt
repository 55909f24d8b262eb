use Rattle.std.proofs.Common.{◌≡◌, ◌+◌, length}
use Rattle.semantics.specs.Control.{steps_to}
use Rattle.rows_parts.proofs.range.are_few.Given as goal

abbrev pub invariant-loop-k : goal.invariant-loop-k
invariant-loop-k l = length l.numbers + l._k ≡ steps_to l.from l.to l.by
