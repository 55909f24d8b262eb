use Rattle.name_table.proofs.names.Names.known_are_kept.Goals as goal

pub returns : goal.returns
returns c = rw (← c.self.view_is) c.self.invariant.known_kept
