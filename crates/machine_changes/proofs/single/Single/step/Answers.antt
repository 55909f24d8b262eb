use Rattle.std.proofs.Common.{◌∙◌, sym}
use Rattle.machine_steps.specs.Setup.{setting_of}
use Rattle.machine_changes.proofs.Going.{gives, goes_on}
use Rattle.machine_changes.proofs.Guarding.{done_fails, done_goes}
use Rattle.machine_changes.proofs.single.Single.step.Goals as goal

pub returns-then-fails_for : goal.returns-then-fails_for
returns-then-fails_for c =
    λ stay rest.
    rw c.name.ensures
    (gives (done_fails (setting_of c.args.scene.now) c.args.self.now.symbol c.args.self.now.deed c.is_shared-shared.result c.is_shared-shared.ensures (sym c.fails_for.ensures ∙ c.if-fails_for.true) c.note_use.ensures))

pub returns : goal.returns
returns c =
    λ stay rest.
    goes_on _
    (done_goes (setting_of c.args.scene.now) c.args.self.now.symbol c.args.self.now.deed c.is_shared-shared.result c.is_shared-shared.ensures (sym c.fails_for.ensures ∙ c.if-fails_for.false) c.note_use.ensures)
    (c.perform.ensures _ stay rest)
