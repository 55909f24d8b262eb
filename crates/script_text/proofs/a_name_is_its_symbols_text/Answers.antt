use Rattle.script_text.proofs.Spelled.{spelled_back}
use Rattle.script_text.proofs.a_name_is_its_symbols_text.Goals as goal

pub returns : goal.returns
returns c = record { law = spelled_back }
