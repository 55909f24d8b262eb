use Rattle.laws_bases.proofs.Stay.{bases_stay}
use Rattle.laws_bases.proofs.evaluation_adds_no_base.Goals as goal

pub returns : goal.returns
returns c = record { law = bases_stay }
