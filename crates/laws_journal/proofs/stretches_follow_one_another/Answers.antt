use Rattle.laws_journal.proofs.Waiting.{stretch_by_stretch}
use Rattle.laws_journal.proofs.stretches_follow_one_another.Goals as goal

pub returns : goal.returns
returns c = record { law = stretch_by_stretch }
