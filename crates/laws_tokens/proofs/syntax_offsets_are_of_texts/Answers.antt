use Rattle.laws_tokens.proofs.Spelling.{offsets_of_texts}
use Rattle.laws_tokens.proofs.syntax_offsets_are_of_texts.Goals as goal

pub returns : goal.returns
returns c = record { law = offsets_of_texts }
