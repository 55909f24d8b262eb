use Rattle.std.proofs.Common.{◌≡◌, ◌++◌, length}
use Rattle.semantics.specs.Control.{steps_to}
use Rattle.semantics.specs.Lists.{count_up}
use Rattle.rows_parts.proofs.range.numbered.Given as goal

abbrev pub decreases-loop-number : goal.decreases-loop-number
decreases-loop-number l = length l.numbers

abbrev pub invariant-loop-number : goal.invariant-loop-number
invariant-loop-number l = l.made ++ l.numbers ≡ count_up l.from l.by (steps_to l.from l.to l.by)
