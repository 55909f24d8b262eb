use Rattle.laws_shift.proofs.Kept.{shifted_names}
use Rattle.laws_shift.proofs.shifted_names_change_no_evaluation.Goals as goal

pub returns : goal.returns
returns c = record { law = shifted_names }
