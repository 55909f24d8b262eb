use Rattle.std.proofs.Common.{◌≡◌, map, take}
use Rattle.semantics.specs.Builtin.{rows}
use Rattle.semantics.specs.Texts.{row_text}
use Rattle.builtin_names.proofs.table.row_names.Given as goal

abbrev pub invariant-loop-place : goal.invariant-loop-place
invariant-loop-place l = l.texts ≡ take l.place (map row_text rows)
