use Rattle.std.proofs.Common.{sym, ◌∙◌}
use Rattle.builtin_names.specs.Named.{names_in}
use Rattle.rows_parts.proofs.Columns.{width_some, width_none}
use Rattle.rows_parts.proofs.transposed.width.Goals as goal

pub returns-then-are_long : goal.returns-then-are_long
returns-then-are_long c =
    let row = c.in_ok-items_under.ensures in
    sym
    (width_some (names_in c.args.names.now) c.args.rows.now c.first-item.result c.in_ok-items_under.field-0.now c.len-length.result c.in-len1-up.len_at_least c.first-item.is row.0 row.1 c.len-length.ensures
    (sym c.are_long.ensures ∙ c.if-are_long.true))

pub returns-else-are_long : goal.returns-else-are_long
returns-else-are_long c =
    let row = c.in_ok-items_under.ensures in
    sym
    (width_none (names_in c.args.names.now) c.args.rows.now c.first-item.result c.in_ok-items_under.field-0.now c.len-length.result c.in-len1-up.len_at_least c.first-item.is row.0 row.1 c.len-length.ensures
    (sym c.are_long.ensures ∙ c.if-are_long.false))
