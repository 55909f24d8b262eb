use Rattle.laws_journal.proofs.Waiting.{wait_locks_agree}
use Rattle.laws_journal.proofs.locks_in_a_wait_are_the_section.Goals as goal

pub returns : goal.returns
returns c = record { law = wait_locks_agree }
