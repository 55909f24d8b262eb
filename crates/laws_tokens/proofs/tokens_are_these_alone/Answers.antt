use Rattle.laws_tokens.proofs.Alone.{these_alone}
use Rattle.laws_tokens.proofs.tokens_are_these_alone.Goals as goal

pub returns : goal.returns
returns c = record { law = these_alone }
