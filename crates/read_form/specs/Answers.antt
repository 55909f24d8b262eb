-- What reading a cell promises.
--     IsReading            the cell is read as the expression
--     IsNo                 why a cell is not read as an expression of the program
use Rattle.std.specs.Prelude.{ℕ, ◌<◌, List}
use Rattle.expr_tree.specs.Tree.{Tree, depth}
use Rattle.script_text.specs.Spelling.{place_in}
use Rattle.syntax.specs.Reads.{Reads, IsOffset}
use Rattle.name_table.specs.Table.{NameTable}
use Rattle.builtin_names.specs.Named.{names_in}
use Rattle.read_form.specs.declared.fault.ReadNo.{ReadNo}
use Rattle.read_form.specs.declared.fault.ReadNo.TheVariants.{Syntax, TooDeep, NoMemory}

abbrev pub IsReading : NameTable → List ℕ → Tree → Type 0
IsReading table cell e = Reads (names_in table) (place_in table.texts) cell e

abbrev pub IsNo : NameTable → List ℕ → ReadNo → Type 0
IsNo table cell (Syntax place) = IsOffset (names_in table) (place_in table.texts) cell place
IsNo table cell TooDeep = (e : Tree) × IsReading table cell e × (512 < depth e)
IsNo table cell NoMemory = Unit {0}
