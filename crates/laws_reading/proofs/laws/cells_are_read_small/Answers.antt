use Rattle.laws_reading.proofs.Sizes.{cell_size}
use Rattle.laws_reading.proofs.laws.cells_are_read_small.Goals as goal

pub returns : goal.returns
returns c = record { law = λ names find cell e h r. cell_size names find cell e h r }
