use Rattle.laws_journal.proofs.Insides.{locks_agree}
use Rattle.laws_journal.proofs.locks_are_the_section.Goals as goal

pub returns : goal.returns
returns c = record { law = locks_agree }
