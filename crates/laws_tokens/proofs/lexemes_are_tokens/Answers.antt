use Rattle.laws_tokens.proofs.Spelling.{are_tokens}
use Rattle.laws_tokens.proofs.lexemes_are_tokens.Goals as goal

pub returns : goal.returns
returns c = record { law = are_tokens }
