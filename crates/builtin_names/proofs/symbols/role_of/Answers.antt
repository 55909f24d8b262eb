use Rattle.std.proofs.Common.{◌∙◌, sym, ap, Some}
use Rattle.builtin_names.specs.Named.{names_in}
use Rattle.semantics.specs.Names as n
use Rattle.builtin_names.proofs.Rows.{role_there, no_role}
use Rattle.builtin_names.proofs.symbols.role_of.Goals as goal

pub row_of_place-requires : goal.row_of_place-requires
row_of_place-requires c = (role_there _ c.names-table.ensures.rows _ _ (sym c.row.ensures ∙ c.in-Some.is)).0

pub returns-in-Some : goal.returns-in-Some
returns-in-Some c =
    ap Some c.row_of_place.ensures
    ∙ sym (role_there _ c.names-table.ensures.rows _ _ (sym c.row.ensures ∙ c.in-Some.is)).1
    ∙ ap (λ t. n.role_of (names_in t) c.args.symbol) c.names-table.ensures.same

pub returns-in-None : goal.returns-in-None
returns-in-None c =
    sym (no_role _ c.names-table.ensures.rows c.texts_are_distinct.ensures _ (sym c.row.ensures ∙ c.in-None.is))
    ∙ ap (λ t. n.role_of (names_in t) c.args.symbol) c.names-table.ensures.same
