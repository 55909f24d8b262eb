use Rattle.laws_shift.proofs.Carried.{carried_over}
use Rattle.laws_shift.proofs.a_closed_set_serves_at_any_module_number.Goals as goal

pub returns : goal.returns
returns c = record { law = carried_over }
