use Rattle.laws_quiet.proofs.Batched.{batch_anywhere}
use Rattle.laws_quiet.proofs.quiet_batches_are_the_same_anywhere.Goals as goal

pub returns : goal.returns
returns c = record { law = batch_anywhere }
