use Rattle.script_text.proofs.Endings.{goes_on_rightly}
use Rattle.script_text.proofs.what_is_read_begins_a_full_form.Goals as goal

pub returns : goal.returns
returns c = record { law = goes_on_rightly }
