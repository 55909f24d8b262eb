use Rattle.script_text.proofs.Unique.{reads_again}
use Rattle.script_text.proofs.a_full_form_is_read_again.Goals as goal

pub returns : goal.returns
returns c = record { law = reads_again }
