use Rattle.laws_tokens.proofs.Cuts.{are_longest}
use Rattle.laws_tokens.proofs.tokens_are_longest.Goals as goal

pub returns : goal.returns
returns c = record { law = are_longest }
