use Rattle.syntax.proofs.Read.{read_or_offset}
use Rattle.syntax.proofs.a_cell_is_read_or_has_an_offset.Goals as goal

pub returns : goal.returns
returns c = record { law = read_or_offset }
