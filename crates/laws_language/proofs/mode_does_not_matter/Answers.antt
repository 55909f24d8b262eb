use Rattle.laws_language.proofs.Modes.{mode_independent}
use Rattle.laws_language.proofs.mode_does_not_matter.Goals as goal

pub returns : goal.returns
returns c = record { law = mode_independent }
