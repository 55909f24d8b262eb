use Rattle.script_text.proofs.Coding.{find, spelling, found}
use Rattle.script_text.proofs.texts_can_be_numbered.Goals as goal

pub returns : goal.returns
returns c = record { law = (find, spelling, found) }
