use Rattle.laws_members.proofs.Scripts.{openings_have_names, scripts_have_rows}
use Rattle.laws_members.proofs.scripts_have_names.Goals as goal

pub returns : goal.returns
returns c = record { law = openings_have_names; texts = scripts_have_rows }
