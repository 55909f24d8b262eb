-- What the program keeps as a bundle.
--     entry_in              an entry: a symbol with its definition
--     bundle_in             the bundle
--     IsBundle              its entries stand in the order of their symbols; its module number may be taken
use Rattle.std.specs.Prelude.{◌≤◌, map}
use Rattle.expr_tree.specs.declared.sym.Sym.{Sym}
use Rattle.semantics.specs.Definitions as d
use Rattle.journal.specs.Closure as closure
use Rattle.kernel_defs.specs.Definition.{definition_of}
use Rattle.kernel_defs.specs.Table.{Ascends}
use Rattle.dist_bundle.specs.declared.bundle.BundleEntry.{BundleEntry}
use Rattle.dist_bundle.specs.declared.bundle.Bundle.TheInside.{Inside}

abbrev pub entry_in : BundleEntry → Sym × d.Definition
entry_in e = (e.symbol, definition_of e.definition)

abbrev pub bundle_in : Inside → closure.Bundle
bundle_in b = record { reach = b.reach; entries = map entry_in b.entries.items; shared = b.shared; module_number = b.module_number }

pub record IsBundle (b : Inside) : Type 0 where
  pub entries : Ascends (map entry_in b.entries.items)
  pub number : b.module_number ≤ 999999999999999999
