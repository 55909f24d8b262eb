use Rattle.builtin_names.specs.Named.{names_in}
use Rattle.machine_changes.specs.Assigning.{reached}
use Rattle.machine_changes.proofs.Going.{goes_on}
use Rattle.machine_changes.proofs.Sides.{evaluated_goes, large_goes}
use Rattle.machine_changes.proofs.assignment.Assignment.assemble.Goals as goal

pub returns-in-Ok-Whole-clause-stepped : goal.returns-in-Ok-Whole-clause-stepped
returns-in-Ok-Whole-clause-stepped c =
    λ stay. goes_on _ (evaluated_goes (reached (names_in c.args.scene.now.names.now) c.args.self.now.goal) (rw c.in-Ok-Whole.field-0-is at c.in-Ok-Whole.ensures)) (c.reach.ensures.stepped stay)

pub returns-in-Ok-Large-clause-stepped : goal.returns-in-Ok-Large-clause-stepped
returns-in-Ok-Large-clause-stepped c =
    let h = rw c.in-Ok-Large.field-0-is at c.in-Ok-Large.ensures in
    λ stay. goes_on _ (large_goes (reached (names_in c.args.scene.now.names.now) c.args.self.now.goal) h) (c.reach_large.ensures.stepped h.by.0 h.by.1 stay)
