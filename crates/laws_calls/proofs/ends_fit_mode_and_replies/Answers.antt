use Rattle.laws_calls.proofs.Passes.{ends_fit, never_throwing}
use Rattle.laws_calls.proofs.ends_fit_mode_and_replies.Goals as goal

pub returns : goal.returns
returns c = record { law = ends_fit; throws = never_throwing }
