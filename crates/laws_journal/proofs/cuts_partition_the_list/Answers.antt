use Rattle.laws_journal.proofs.Cutting.{cuts_partition}
use Rattle.laws_journal.proofs.cuts_partition_the_list.Goals as goal

pub returns : goal.returns
returns c = record { law = cuts_partition }
