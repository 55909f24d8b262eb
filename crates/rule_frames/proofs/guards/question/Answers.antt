use Rattle.rule_frames.proofs.guards.question.Goals as goal

pub returns-in-Cond : goal.returns-in-Cond
returns-in-Cond c = rw c.in-Cond.is c.placed.ensures
