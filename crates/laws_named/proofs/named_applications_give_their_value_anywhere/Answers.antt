use Rattle.laws_named.proofs.Quiet.{named_anywhere}
use Rattle.laws_named.proofs.named_applications_give_their_value_anywhere.Goals as goal

pub returns : goal.returns
returns c = record { law = named_anywhere }
