use Rattle.laws_journal.proofs.Grows.{answer_grows, play_grows, cells_grow}
use Rattle.laws_journal.proofs.run_looks_no_further.Goals as goal

pub returns : goal.returns
returns c = record { law = (answer_grows, play_grows, cells_grow) }
