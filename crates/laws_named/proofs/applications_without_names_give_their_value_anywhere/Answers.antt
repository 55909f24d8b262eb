use Rattle.laws_named.proofs.Named.{given_anywhere}
use Rattle.laws_named.proofs.applications_without_names_give_their_value_anywhere.Goals as goal

pub returns : goal.returns
returns c = record { law = given_anywhere }
