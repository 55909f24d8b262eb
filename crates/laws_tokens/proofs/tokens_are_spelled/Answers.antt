use Rattle.laws_tokens.proofs.Spelling.{are_spelled}
use Rattle.laws_tokens.proofs.tokens_are_spelled.Goals as goal

pub returns : goal.returns
returns c = record { law = are_spelled }
