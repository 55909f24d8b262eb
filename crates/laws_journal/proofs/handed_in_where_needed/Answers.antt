use Rattle.laws_journal.proofs.Seen.{handed_is_needed}
use Rattle.laws_journal.proofs.handed_in_where_needed.Goals as goal

pub returns : goal.returns
returns c = record { law = handed_is_needed }
