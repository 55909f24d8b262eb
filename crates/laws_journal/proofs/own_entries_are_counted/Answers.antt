use Rattle.laws_journal.proofs.Seen.{own_counted}
use Rattle.laws_journal.proofs.own_entries_are_counted.Goals as goal

pub returns : goal.returns
returns c = record { law = own_counted }
