use Rattle.laws_relations.proofs.Shift.{shift_keeps_order}
use Rattle.laws_relations.proofs.a_shift_keeps_order.Goals as goal

pub returns : goal.returns
returns c = record { law = shift_keeps_order }
