use Rattle.eval_seq.proofs.RowStarts.{opens_is}
use Rattle.eval_seq.proofs.rows.function_start.Goals as goal

pub returns : goal.returns
returns c = opens_is c.apply.ensures.is (c.made.ensures c.apply.ensures.made c.apply.ensures.works)
