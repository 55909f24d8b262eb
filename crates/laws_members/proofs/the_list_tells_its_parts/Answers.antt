use Rattle.laws_members.proofs.Listed.{parts_told}
use Rattle.laws_members.proofs.the_list_tells_its_parts.Goals as goal

pub returns : goal.returns
returns c = record { law = parts_told }
