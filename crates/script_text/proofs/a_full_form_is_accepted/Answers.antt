use Rattle.script_text.proofs.Refused.{accepts}
use Rattle.script_text.proofs.a_full_form_is_accepted.Goals as goal

pub returns : goal.returns
returns c = record { law = accepts }
