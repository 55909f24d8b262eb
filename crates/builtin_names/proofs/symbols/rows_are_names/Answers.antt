use Rattle.std.proofs.Common.{subst}
use Rattle.semantics.specs.Names.{IsNames}
use Rattle.builtin_names.specs.Named.{names_in}
use Rattle.builtin_names.proofs.Rows.{are_names}
use Rattle.builtin_names.proofs.symbols.rows_are_names.Goals as goal

pub returns : goal.returns
returns c = subst (λ t. IsNames (names_in t)) c.names.ensures.same (are_names c.names.result.now c.names.ensures.rows c.texts_are_distinct.ensures)
