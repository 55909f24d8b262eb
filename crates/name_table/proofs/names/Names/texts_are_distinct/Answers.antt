use Rattle.name_table.proofs.Sorted.{distinct}
use Rattle.name_table.proofs.names.Names.texts_are_distinct.Goals as goal

pub returns : goal.returns
returns c = rw (← c.self.view_is) (distinct _ c.self.invariant.ascends)
