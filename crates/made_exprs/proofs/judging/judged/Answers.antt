use Rattle.made_exprs.proofs.judging.judged.Goals as goal

pub returns-in-Err : goal.returns-in-Err
returns-in-Err c = λ t made. record { by = c.stop_for.ensures t (rw c.in-Err.is at made) }
