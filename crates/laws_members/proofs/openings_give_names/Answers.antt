use Rattle.laws_members.proofs.Named.{opens_names}
use Rattle.laws_members.proofs.openings_give_names.Goals as goal

pub returns : goal.returns
returns c = record { law = opens_names }
