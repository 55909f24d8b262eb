use Rattle.laws_journal.proofs.Closed.{sound_closure, complete_closure}
use Rattle.laws_journal.proofs.closure_is_least.Goals as goal

pub returns : goal.returns
returns c = record { law = λ names d seeds s. (sound_closure names d seeds s, complete_closure names d seeds s) }
