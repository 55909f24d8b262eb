use Rattle.laws_journal.proofs.Pins.{pins_live}
use Rattle.laws_journal.proofs.pinned_items_have_living_kernels.Goals as goal

pub returns : goal.returns
returns c = record { law = pins_live }
