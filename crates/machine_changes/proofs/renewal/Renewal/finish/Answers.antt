use Rattle.machine_steps.specs.Setup.{setting_of}
use Rattle.machine_changes.proofs.Going.{goes_on}
use Rattle.machine_changes.proofs.Renewals.{renew_noted}
use Rattle.machine_changes.proofs.renewal.Renewal.finish.Goals as goal

pub returns-clause-stepped : goal.returns-clause-stepped
returns-clause-stepped c = λ stay rest.
    rw c.done_with.ensures.moves (goes_on _ (renew_noted (setting_of c.args.scene.now) c.args.self.now c.args.old c.args.value c.is_shared-shared.result c.is_shared-shared.ensures c.note_use.ensures) (c.renew.ensures _ stay rest))
