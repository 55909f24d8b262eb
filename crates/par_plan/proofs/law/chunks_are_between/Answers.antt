use Rattle.par_plan.proofs.Between.{chunks_are_between}
use Rattle.par_plan.proofs.law.chunks_are_between.Goals as goal

pub returns : goal.returns
returns c = record { law = chunks_are_between }
