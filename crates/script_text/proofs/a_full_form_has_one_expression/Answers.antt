use Rattle.script_text.proofs.Unique.{one_expression}
use Rattle.script_text.proofs.a_full_form_has_one_expression.Goals as goal

pub returns : goal.returns
returns c = record { law = one_expression }
