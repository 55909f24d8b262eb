-- The names of a table: that it has those of the rows.
use Rattle.std.proofs.Common.{◌≡◌, refl, ◌<◌, length}
use Rattle.script_text.specs.Laws.{IsKept}
use Rattle.name_table.specs.Table.{NameTable}
use Rattle.semantics.specs.declared.builtin.Builtin.{Builtin}
use Rattle.semantics.specs.Names.{name}
use Rattle.semantics.specs.Texts.{names_of}
use Rattle.builtin_names.specs.Named.{HasBuiltins, names_in}

pub names_are : (table : NameTable) → names_in table ≡ names_of table.texts
unfolding names_in
names_are table = refl

pub rows_kept : (table : NameTable) → HasBuiltins table → (row : Builtin) → (names_in table).place row < length table.texts
unfolding names_in
rows_kept table h row = h.kept row

pub name_kept : (table : NameTable) → HasBuiltins table → (row : Builtin) → IsKept (length table.texts) (name (names_in table) row)
name_kept table h row = rows_kept table h row

pub ruleset line_steps = (names_are)
