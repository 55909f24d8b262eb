use Rattle.script_text.proofs.Refused.{stops_rightly}
use Rattle.script_text.proofs.what_is_refused_begins_no_full_form.Goals as goal

pub returns : goal.returns
returns c = record { law = stops_rightly }
