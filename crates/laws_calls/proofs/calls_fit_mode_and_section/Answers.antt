use Rattle.laws_calls.proofs.Passes.{calls_fit}
use Rattle.laws_calls.proofs.calls_fit_mode_and_section.Goals as goal

pub returns : goal.returns
returns c = record { law = calls_fit }
