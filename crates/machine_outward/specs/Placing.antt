-- Where a form is evaluated.
--     is_outside            in a cell outside a section, where it may be one call
--     names_at, Opens       the names there; how a row begins there
use Rattle.std.specs.Prelude.{Bool, true, false, not, Option, Result}
use Rattle.semantics.specs.Names.{Names}
use Rattle.semantics.specs.Program.{Prog, Mode, Cell, Item, Service}
use Rattle.builtin_names.specs.Named.{names_in}
use Rattle.machine_steps.specs.Setup.{setting_of}
use Rattle.machine_steps.specs.Steps.{StartsWhere}
use Rattle.machine_outward.specs.declared.place.Place.{Place}
use Rattle.machine_outward.specs.declared.outward_row.OutwardRow.{OutwardRow}
use Rattle.machine_outward.specs.OutwardLeft.{left}

abbrev pub is_outside : Mode → Bool → Bool
is_outside Cell is_open = not is_open
is_outside Item is_open = false
is_outside Service is_open = false

abbrev pub names_at : Place → Names
names_at place = names_in place.scene.now.names.now

abbrev pub Opens : {E : Type 0} → Place → (Prog → Prog) → Bool → Result (Option OutwardRow) E → Bool → Type 0
Opens place p used r used' = StartsWhere (setting_of place.scene.now) (left (names_at place)) p place.is_open used r used'
