-- The rows of the built-in table among the names of a script.
--     names_in              the names that an evaluation goes by, from a table of names
--     HasBuiltins           the known names of the table are those of the rows, in their order: the invariant of a vocabulary
use Rattle.std.specs.Prelude.{◌≡◌, ◌<◌, map, length}
use Rattle.script_text.specs.Spelling.{place_in}
use Rattle.name_table.specs.Table.{NameTable}
use Rattle.semantics.specs.declared.builtin.Builtin.{Builtin}
use Rattle.semantics.specs.Builtin.{rows}
use Rattle.semantics.specs.Names.{Names}
use Rattle.semantics.specs.Texts.{row_text, names_of}

unfoldable pub names_in : NameTable → Names
names_in table = names_of table.texts

pub record HasBuiltins (table : NameTable) : Type 0 where
  pub known : table.known ≡ map (λ row. place_in table.texts (row_text row)) rows
  pub kept : (row : Builtin) → place_in table.texts (row_text row) < length table.texts
