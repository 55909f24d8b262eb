use Rattle.std.proofs.Common.{◌∙◌, sym}
use Rattle.machine_steps.specs.Setup.{setting_of}
use Rattle.machine_changes.proofs.Going.{gives, goes_on}
use Rattle.machine_changes.proofs.Renewals.{renew_refused, renew_passes}
use Rattle.machine_changes.proofs.renewal.Renewal.renew.Goals as goal

pub returns-then-is_protected : goal.returns-then-is_protected
returns-then-is_protected c = λ used stay rest.
    rw c.name.ensures (gives (renew_refused (setting_of c.args.scene.now) c.args.self.now c.args.old c.args.value (sym c.is_protected.ensures ∙ c.if-is_protected.true)))

pub returns : goal.returns
returns c = λ used stay rest.
    goes_on _ (renew_passes (setting_of c.args.scene.now) c.args.self.now c.args.old c.args.value (sym c.is_protected.ensures ∙ c.if-is_protected.false)) (c.put.ensures used stay rest)
