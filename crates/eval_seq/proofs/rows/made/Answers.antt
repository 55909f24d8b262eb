use Rattle.eval_seq.proofs.RowStarts.{opens_worked, opens_fault}
use Rattle.eval_seq.proofs.rows.made.Goals as goal

pub returns-in-Ok : goal.returns-in-Ok
returns-in-Ok c w works = opens_worked w (rw c.in-Ok.is at works)

pub returns-in-Err : goal.returns-in-Err
returns-in-Err c w works = rw c.from.ensures (opens_fault w c.in-Err.fault (rw c.in-Err.is at works) c.halt_for.ensures.large c.halt_for.ensures.range c.halt_for.ensures.memory)
