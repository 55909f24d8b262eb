use Rattle.laws_named.proofs.Quiet.{quiet_gives_none}
use Rattle.laws_named.proofs.quiet_but_for_names_gives_none.Goals as goal

pub returns : goal.returns
returns c = record { law = quiet_gives_none }
