use Rattle.syntax.proofs.Read.{one_reading}
use Rattle.syntax.proofs.a_cell_has_one_reading.Goals as goal

pub returns : goal.returns
returns c = record { law = one_reading }
