use Rattle.laws_transcript.proofs.Along.{alone_is_run}
use Rattle.laws_transcript.proofs.a_script_alone_is_the_run_without_kernels.Goals as goal

pub returns : goal.returns
returns c = record { law = alone_is_run }
