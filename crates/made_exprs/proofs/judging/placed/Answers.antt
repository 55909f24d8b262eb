use Rattle.made_exprs.proofs.judging.placed.Goals as goal

pub returns : goal.returns
returns c = c.judged.ensures _ c.subst.ensures
