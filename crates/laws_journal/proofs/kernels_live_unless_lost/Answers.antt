use Rattle.laws_journal.proofs.Seen.{lives_unless_lost}
use Rattle.laws_journal.proofs.kernels_live_unless_lost.Goals as goal

pub returns : goal.returns
returns c = record { law = lives_unless_lost }
