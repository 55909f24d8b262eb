-- The attributes of a symbol as a list of their names, in the order of the built-in table.
--     attributes_in
use Rattle.std.specs.Prelude.{Bool, true, false, [], ◌∷◌}
use Rattle.expr_tree.specs.declared.attrs.Attrs.{Attrs}
use Rattle.semantics.specs.declared.builtin.Builtin.{Builtin}
use Rattle.semantics.specs.Definitions.{Attributes}

abbrev pub where_set : Bool → Builtin → Attributes → Attributes
where_set true name names = name ∷ names
where_set false name names = names

abbrev pub attributes_in : Attrs → Attributes
attributes_in a =
    where_set a.flat Builtin.Flat
    (where_set a.orderless Builtin.Orderless
    (where_set a.listable Builtin.Listable
    (where_set a.hold_first Builtin.HoldFirst
    (where_set a.hold_rest Builtin.HoldRest
    (where_set a.hold_all Builtin.HoldAll
    (where_set a.hold_all_complete Builtin.HoldAllComplete
    (where_set a.sequence_hold Builtin.SequenceHold
    (where_set a.one_identity Builtin.OneIdentity
    (where_set a.protected Builtin.Protected [])))))))))
