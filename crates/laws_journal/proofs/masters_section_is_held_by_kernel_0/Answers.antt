use Rattle.laws_journal.proofs.Masters.{calls_keep_sections, cells_keep_sections}
use Rattle.laws_journal.proofs.masters_section_is_held_by_kernel_0.Goals as goal

pub returns : goal.returns
returns c = record { calls = calls_keep_sections; cells = cells_keep_sections }
