use Rattle.laws_members.proofs.Listed.{beginnings_kept}
use Rattle.laws_members.proofs.beginnings_are_kept.Goals as goal

pub returns : goal.returns
returns c = record { law = beginnings_kept }
