use Rattle.std.proofs.Common.{refl}
use Rattle.machine_steps.specs.Setup.{setting_of}
use Rattle.machine_changes.proofs.Going.{gives}
use Rattle.machine_changes.proofs.Larger.{unset_large}
use Rattle.machine_changes.proofs.large.unset_large.Goals as goal

pub returns : goal.returns
returns c =
    λ l r stay rest.
    rw c.name.ensures
    (gives
    (unset_large (setting_of c.args.scene.now) c.args.scene.now.names.now c.rows_are_names.ensures c.args.list.now l _ c.any_shared-shared.result refl r c.in_ok-symbols.ensures
    c.any_shared-shared.ensures c.note_use.ensures (c.hold_none.ensures l r.large)))
