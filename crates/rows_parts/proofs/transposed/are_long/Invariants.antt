use Rattle.std.proofs.Common.{◌≡◌, drop}
use Rattle.builtin_names.specs.Named.{names_in}
use Rattle.rows_parts.specs.Widths.{are_long}
use Rattle.rows_parts.proofs.transposed.are_long.Given as goal

abbrev pub invariant-loop-row : goal.invariant-loop-row
invariant-loop-row l = are_long (names_in l.names) l.length (drop l.row-index l.rows) ≡ are_long (names_in l.names) l.length l.rows
