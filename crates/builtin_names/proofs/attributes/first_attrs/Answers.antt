use Rattle.std.proofs.Common.{◌∙◌, ap, get_or, ◌<◌}
use Rattle.semantics.specs.declared.builtin.Builtin.{Builtin}
use Rattle.semantics.specs.Builtin.{rows, row_count, first_attributes}
use Rattle.case_table.specs.Entries.{attrs_of}
use Rattle.builtin_names.specs.Attributes.{attributes_in}
use Rattle.builtin_names.proofs.Places.{row_here, attributes_here}
use Rattle.builtin_names.proofs.Rows.{blank_row, entry_here, within}
use Rattle.builtin_names.proofs.attributes.first_attrs.Goals as goal

pub returns : goal.returns
returns c =
    let few : c.place_of.result < row_count = rw c.place_of.ensures (within c.args.row) in
    ap (λ e. attributes_in e.attrs) (entry_here c.builtins.result.rows.now blank_row c.builtins.ensures c.place_of.result few)
    ∙ ap (λ i. attributes_in (attrs_of (first_attributes (get_or rows i Builtin.Plus)))) c.place_of.ensures
    ∙ ap (λ row. attributes_in (attrs_of (first_attributes row))) (row_here c.args.row).0
    ∙ attributes_here c.args.row
