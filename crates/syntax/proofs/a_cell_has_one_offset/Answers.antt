use Rattle.syntax.proofs.Read.{one_offset}
use Rattle.syntax.proofs.a_cell_has_one_offset.Goals as goal

pub returns : goal.returns
returns c = record { law = one_offset }
