use Rattle.std.proofs.Common.{◌∙◌, ap}
use Rattle.name_table.specs.Table.{places}
use Rattle.builtin_names.proofs.Rows.{has_builtins}
use Rattle.builtin_names.proofs.table.names_with.Goals as goal

pub new-requires : goal.new-requires
new-requires c =
    has_builtins c.in_ok-names.names (c.in_ok-names.ensures.known ∙ ap (places c.in_ok-names.names.texts) c.in_ok-known.ensures) c.known_are_kept.ensures
