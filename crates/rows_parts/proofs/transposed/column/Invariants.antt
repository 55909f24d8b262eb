use Rattle.std.proofs.Common.{◌≡◌, ◌++◌, map, drop}
use Rattle.semantics.specs.Lists.{column}
use Rattle.semantics.specs.Names.{items_of}
use Rattle.rows_parts.proofs.transposed.column.Given as goal

abbrev pub invariant-loop-row : goal.invariant-loop-row
invariant-loop-row l = l.made ++ column l.place (map items_of (drop l.row-index l.rows)) ≡ column l.place (map items_of l.rows)
