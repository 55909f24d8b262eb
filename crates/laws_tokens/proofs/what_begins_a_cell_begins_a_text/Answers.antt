use Rattle.laws_tokens.proofs.Spelling.{are_texts}
use Rattle.laws_tokens.proofs.what_begins_a_cell_begins_a_text.Goals as goal

pub returns : goal.returns
returns c = record { law = are_texts }
