use Rattle.sequential_transcript.proofs.Once.{transcript_once}
use Rattle.sequential_transcript.proofs.a_script_has_one_transcript.Goals as goal

pub returns : goal.returns
returns c = record { law = transcript_once }
