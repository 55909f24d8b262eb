-- What matching asks of the attributes of a symbol.
--     attrs_seen            Flat and Orderless, as definitions have them
use Rattle.std.specs.Prelude.{false}
use Rattle.expr_tree.specs.declared.sym.Sym.{Sym}
use Rattle.expr_tree.specs.declared.attrs.Attrs.{Attrs}
use Rattle.semantics.specs.declared.builtin.Builtin.{Builtin}
use Rattle.semantics.specs.Definitions.{Definitions, definition_of, has}
use Rattle.name_table.specs.Table.{NameTable}
use Rattle.builtin_names.specs.Named.{names_in}

abbrev pub attrs_seen : NameTable → Definitions → Sym → Attrs
attrs_seen table d s =
    record {
      flat = has Builtin.Flat (definition_of (names_in table) d s).attributes;
      orderless = has Builtin.Orderless (definition_of (names_in table) d s).attributes;
      listable = false;
      hold_first = false;
      hold_rest = false;
      hold_all = false;
      hold_all_complete = false;
      sequence_hold = false;
      one_identity = false;
      protected = false;
    }
