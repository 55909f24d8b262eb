use Rattle.std.proofs.Common.{◌≡◌, ◌++◌, drop}
use Rattle.builtin_names.specs.Named.{names_in}
use Rattle.attr_steps.specs.Columns.{column}
use Rattle.attr_steps.proofs.threading.column.Given as goal

abbrev pub invariant-loop-item : goal.invariant-loop-item
invariant-loop-item l = l.column ++ column (names_in l.names) l.place (drop l.item-index l.items) ≡ column (names_in l.names) l.place l.items
