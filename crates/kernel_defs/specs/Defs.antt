-- A kernel's table of definitions.
--     definitions_in        the definitions in a table
--     IsDefs                what is true of every table
use Rattle.std.specs.Prelude.{◌≡◌, ◌≤◌, [], map, length}
use Rattle.semantics.specs.Definitions.{Definitions}
use Rattle.kernel_defs.specs.Chains.{listed}
use Rattle.kernel_defs.specs.Table.{entries_in, IsTable}
use Rattle.kernel_defs.specs.declared.defs.Defs.TheInside.{Inside}

abbrev pub definitions_in : Inside → Definitions
definitions_in t = record { entries = entries_in (map listed t.chains.items); shared = t.shared; named = t.named; module_number = t.module_number }

pub record IsDefs (t : Inside) : Type 0 where
  pub width : length t.chains.items ≡ 4096
  pub table : IsTable 0 (map listed t.chains.items)
  pub number : t.module_number ≤ 999999999999999999
  pub no_rules : t.no_rules ≡ []
