use Rattle.semantics.proofs.Opened.{sections_in_order}
use Rattle.semantics.proofs.sections_are_in_order.Goals as goal

pub returns : goal.returns
returns c = record { law = sections_in_order }
