use Rattle.laws_bases.proofs.Stay.{evaluations_keep, plays_keep}
use Rattle.laws_bases.proofs.bases_are_kept_along_calls.Goals as goal

pub returns : goal.returns
returns c = record { law = evaluations_keep; plays = plays_keep }
