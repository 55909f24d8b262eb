-- The place of each row, computed: a clause for all the rows is checked for each of them.
--     row_here              the row at its own place, which is within the table
--     row_named             the row with its own name
--     attributes_here       the attributes that a row has at the start, set and listed
use Rattle.std.proofs.Common.{◌≡◌, refl, get_or}
use Rattle.std.specs.Prelude.{ltb, true, Some}
use Rattle.semantics.specs.declared.builtin.Builtin.{Builtin}
use Rattle.semantics.specs.Builtin.{rows, row_count, row_number, first_attributes}
use Rattle.semantics.specs.Texts.{row_text, row_with}
use Rattle.case_table.specs.Entries.{attrs_of}
use Rattle.builtin_names.specs.Attributes.{attributes_in}

pub row_here : (row : Builtin) → (get_or rows (row_number row) Builtin.Plus ≡ row) × (ltb (row_number row) row_count ≡ true)
row_here Builtin.Plus = (refl, refl)
row_here _ = (refl, refl)

pub row_named : (row : Builtin) → row_with rows (row_text row) ≡ Some row
row_named Builtin.Plus = refl
row_named _ = refl

pub attributes_here : (row : Builtin) → attributes_in (attrs_of (first_attributes row)) ≡ first_attributes row
attributes_here Builtin.Plus = refl
attributes_here _ = refl
