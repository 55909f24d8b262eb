use Rattle.laws_members.proofs.Listed.{entries_added}
use Rattle.laws_members.proofs.added_entries_are_of_the_list.Goals as goal

pub returns : goal.returns
returns c = record { law = entries_added }
