use Rattle.script_text.proofs.Long.{full_form_is_long}
use Rattle.script_text.proofs.a_full_form_is_as_long_as_its_expression.Goals as goal

pub returns : goal.returns
returns c = record { law = full_form_is_long }
