use Rattle.std.proofs.Common.{◌≡◌, ◌+◌, ◌-◌, ◌*◌, drop, length}
use Rattle.std.specs.Prelude.{is_some}
use Rattle.semantics.specs.Lists.{part_of}
use Rattle.builtin_names.specs.Named.{names_in}
use Rattle.rows_parts.specs.Finds.{picked}
use Rattle.rows_parts.proofs.parts.+there.Given as goal

abbrev pub decreases-is_there : goal.decreases-is_there
decreases-is_there l = 2 * (length l.indices.now - l.from)

abbrev pub decreases-are_there : goal.decreases-are_there
decreases-are_there l = 2 * (length l.indices.now - l.from) + 1

abbrev pub invariant-are_there-loop-number : goal.invariant-are_there-loop-number
invariant-are_there-loop-number l =
    is_some (picked (part_of (names_in l.names) (drop l.from l.indices)) l.e (drop l.number-index l.numbers)) ≡ is_some (picked (part_of (names_in l.names) (drop l.from l.indices)) l.e l.numbers)
