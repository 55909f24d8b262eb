use Rattle.script_text.proofs.Alike.{stops_alike}
use Rattle.script_text.proofs.stopping_does_not_depend_on_names.Goals as goal

pub returns : goal.returns
returns c = record { law = stops_alike }
