use Rattle.master_core.proofs.Lost as l
use Rattle.master_core.proofs.losing.abandoned.Goals as goal

pub returns-in-Ok : goal.returns-in-Ok
returns-in-Ok c = λ set on. l.batch_is set c.args.terms _ _ _ _ _ _ on c.in-Batch.is c.len.ensures c.in_ok-values-in-Batch.ensures c.symbol-in-Batch.ensures c.in-Ok.ensures.0
