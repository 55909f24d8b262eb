use Rattle.shared_calls.proofs.Sending.{all_sent}
use Rattle.shared_calls.proofs.accesses_are_sent.Goals as goal

pub returns : goal.returns
returns c = all_sent
