use Rattle.laws_shift.proofs.Unseen.{any_module_number}
use Rattle.laws_shift.proofs.module_numbers_show_in_names_alone.Goals as goal

pub returns : goal.returns
returns c = record { law = any_module_number }
