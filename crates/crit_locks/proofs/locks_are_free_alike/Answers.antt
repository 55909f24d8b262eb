use Rattle.crit_locks.proofs.Frees.{are_free_alike}
use Rattle.crit_locks.proofs.locks_are_free_alike.Goals as goal

pub returns : goal.returns
returns c = are_free_alike
