use Rattle.laws_members.proofs.Listed.{listed_are_members}
use Rattle.laws_members.proofs.such_lists_are_of_an_opening_and_entries.Goals as goal

pub returns : goal.returns
returns c = record { law = listed_are_members }
