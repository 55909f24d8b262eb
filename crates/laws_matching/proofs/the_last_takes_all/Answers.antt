use Rattle.laws_matching.proofs.Bounds.{last_takes_all}
use Rattle.laws_matching.proofs.the_last_takes_all.Goals as goal

pub returns : goal.returns
returns c = record { law = last_takes_all }
