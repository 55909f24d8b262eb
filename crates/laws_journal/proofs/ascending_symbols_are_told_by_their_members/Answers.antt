use Rattle.laws_journal.proofs.Symbols.{members_tell, closures_ascend}
use Rattle.laws_journal.proofs.ascending_symbols_are_told_by_their_members.Goals as goal

pub returns : goal.returns
returns c = record { law = members_tell; closures = closures_ascend }
