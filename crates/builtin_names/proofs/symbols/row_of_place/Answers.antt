use Rattle.std.proofs.Common.{get_or}
use Rattle.builtin_names.proofs.Rows.{blank_row, entry_here, is_row, no_operator}
use Rattle.builtin_names.proofs.symbols.row_of_place.Goals as goal

pub unreachable-requires : goal.unreachable-requires
unreachable-requires c =
    let rows = c.builtins.result.rows.now in
    no_operator (get_or rows c.args.place blank_row) _ _ c.in-Operator.is (entry_here rows blank_row c.builtins.ensures c.args.place c.requires)

pub returns : goal.returns
returns c =
    let rows = c.builtins.result.rows.now in
    is_row (get_or rows c.args.place blank_row) _ _ c.in-Builtin.is (entry_here rows blank_row c.builtins.ensures c.args.place c.requires)
