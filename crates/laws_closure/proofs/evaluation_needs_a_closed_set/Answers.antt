use Rattle.laws_closure.proofs.Framed.{frame}
use Rattle.laws_closure.proofs.evaluation_needs_a_closed_set.Goals as goal

pub returns : goal.returns
returns c = record { law = frame }
