-- What holds of every table of names.
use Rattle.std.specs.Prelude.{◌<◌, ◌^◌, ℕ, length, get_or}
use Rattle.std.specs.List.Sorted.{IsStrictlySortedBy}
use Rattle.script_text.specs.Spelling.{name_cmp}
use Rattle.name_table.specs.Table.{NameTable}

-- fewer than 2^32 bases, each once and in the order of names, and the bases of the known names among them
pub record IsTable (table : NameTable) : Type 0 where
  pub few : length table.texts < 2 ^ 32
  pub ascends : IsStrictlySortedBy name_cmp table.texts
  pub known_kept : (row : ℕ) → row < length table.known → get_or table.known row 0 < length table.texts
