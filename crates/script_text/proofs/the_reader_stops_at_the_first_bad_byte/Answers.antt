use Rattle.script_text.proofs.FirstBad.{stops_at_first_bad}
use Rattle.script_text.proofs.the_reader_stops_at_the_first_bad_byte.Goals as goal

pub returns : goal.returns
returns c = record { law = stops_at_first_bad }
