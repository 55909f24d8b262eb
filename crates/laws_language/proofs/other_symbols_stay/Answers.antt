use Rattle.laws_language.proofs.Stored.{others_stay}
use Rattle.laws_language.proofs.other_symbols_stay.Goals as goal

pub returns : goal.returns
returns c = record { law = others_stay }
