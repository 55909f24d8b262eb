use Rattle.laws_journal.proofs.Replayed.{run_posts, begun_good}
use Rattle.laws_journal.proofs.runs_post_the_journal.Goals as goal

pub returns : goal.returns
returns c = record { law = λ set cells journal. run_posts set journal cells; begun = λ set cells journal. begun_good set journal cells }
