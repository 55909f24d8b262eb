-- Rows that ask where they are evaluated, as machines of this crate.
use Rattle.std.specs.Prelude.{Bool, Option, Some, None, Result, Ok, Err}
use Rattle.semantics.specs.Names.{Names}
use Rattle.semantics.specs.Program.{Prog}
use Rattle.semantics.specs.Play.{Setting}
use Rattle.machine_steps.specs.Steps.{StartsWhere}
use Rattle.machine_outward.specs.declared.outward_row.OutwardRow.{OutwardRow}
use Rattle.machine_outward.specs.OutwardLeft as outward
use Rattle.machine_rows.specs.declared.machine.Machine.{Machine}
use Rattle.machine_rows.specs.Machines.{left}

module _ {E F : Type 0} {set : Setting} (names : Names) {p : Prog → Prog} {is_open used used' : Bool} where
  pub outward_begun : {row : OutwardRow} → StartsWhere {E = E} set (outward.left names) p is_open used (Ok (Some row)) used' → StartsWhere {E = F} set (left names) p is_open used (Ok (Some (Machine.Outward row))) used'
  outward_begun a = record { by = a.by }

  pub outward_stays : StartsWhere {E = E} set (outward.left names) p is_open used (Ok None) used' → StartsWhere {E = F} set (left names) p is_open used (Ok None) used'
  outward_stays a = record { by = a.by }
