use Rattle.std.proofs.Common.{◌∙◌, ap, get_or}
use Rattle.semantics.specs.Names.{known}
use Rattle.builtin_names.specs.Named.{names_in}
use Rattle.builtin_names.proofs.Rows.{known_here, known_count, within}
use Rattle.builtin_names.proofs.symbols.symbol_for.Goals as goal

pub known-requires : goal.known-requires
known-requires c = rw (c.place_of.ensures, known_count c.names.result.now c.names.ensures.rows) (within c.args.row)

pub returns-clause-symbol : goal.returns-clause-symbol
unfolding names_in
returns-clause-symbol c =
    c.known.ensures.value
    ∙ ap (λ base. record { base = base; number = 0 }) (ap (λ i. get_or c.names.result.now.known i 0) c.place_of.ensures ∙ known_here c.names.result.now c.names.ensures.rows c.args.row)
    ∙ ap (λ t. known (names_in t) c.args.row) c.names.ensures.same
