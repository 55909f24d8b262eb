use Rattle.laws_journal.proofs.Finds.{stand_in_finds}
use Rattle.laws_journal.proofs.the_stand_in_finds_an_item.Goals as goal

pub returns : goal.returns
returns c = record { law = stand_in_finds }
