use Rattle.laws_members.proofs.Listed.{kernels_entries}
use Rattle.laws_members.proofs.each_kernel_has_its_entries.Goals as goal

pub returns : goal.returns
returns c = record { law = kernels_entries }
