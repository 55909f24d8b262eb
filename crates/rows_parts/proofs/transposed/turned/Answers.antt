use Rattle.builtin_names.specs.Named.{names_in}
use Rattle.rows_parts.proofs.Columns.{columns_shallow}
use Rattle.rows_parts.proofs.transposed.turned.Goals as goal

pub unreachable-requires : goal.unreachable-requires
unreachable-requires c =
    columns_shallow (names_in c.args.names.now) c.args.width c.in-Err-TooDeep.field-0-0 c.args.rows.now c.in-Err-TooDeep.field-0 c.columns.result c.requires.shallow c.in-Err-TooDeep.field-0-is
    c.in-Err-TooDeep.is c.columns.ensures
