use Rattle.laws_matching.proofs.Heads.{heads_tell_all}
use Rattle.laws_matching.proofs.heads_tell_all.Goals as goal

pub returns : goal.returns
returns c = record { law = heads_tell_all }
