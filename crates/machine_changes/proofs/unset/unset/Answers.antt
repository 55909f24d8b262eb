use Rattle.std.proofs.Common.{◌∙◌, sym}
use Rattle.builtin_names.specs.Named.{names_in}
use Rattle.machine_steps.specs.Setup.{setting_of}
use Rattle.kernel_defs.proofs.Runs.{seen_all}
use Rattle.machine_changes.proofs.Going.{gives, onward, same_program}
use Rattle.machine_changes.proofs.Unsetting.{kept_fails, takes_away, unset_passes, unset_refused}
use Rattle.machine_changes.proofs.unset.unset.Goals as goal

pub returns-then-is_refused : goal.returns-then-is_refused
returns-then-is_refused c =
    λ stay rest.
    rw c.name.ensures
    (gives
    (unset_refused (setting_of c.args.scene.now) c.args.left.now _ c.any_shared-shared.result c.in_ok-symbols.ensures c.any_shared-shared.ensures
    (sym c.is_refused.ensures.refused ∙ c.if-is_refused.true) c.is_refused.ensures.used))

pub returns-then-is_kept : goal.returns-then-is_kept
returns-then-is_kept c =
    λ stay rest.
    rw c.name-then-is_kept.ensures
    (gives
    (onward
    (unset_passes (setting_of c.args.scene.now) c.args.left.now _ _ c.any_shared-shared.result c.in_ok-symbols.ensures c.any_shared-shared.ensures
    (sym c.is_refused.ensures.refused ∙ c.if-is_refused.false) c.is_refused.ensures.used c.in_ok-held.ensures)
    (same_program (kept_fails (names_in c.args.scene.now.names.now) c.args.left.now (seen_all (names_in c.args.scene.now.names.now) c.args.defs.now c.in_ok-held.held) (sym c.is_kept.ensures ∙ c.if-is_kept.true)))))

pub returns : goal.returns
returns c =
    λ stay rest.
    rw c.name-2.ensures
    (gives
    (onward
    (unset_passes (setting_of c.args.scene.now) c.args.left.now _ _ c.any_shared-shared.result c.in_ok-symbols.ensures c.any_shared-shared.ensures
    (sym c.is_refused.ensures.refused ∙ c.if-is_refused.false) c.is_refused.ensures.used c.in_ok-held.ensures)
    (takes_away (setting_of c.args.scene.now) c.args.left.now _ _ c.in_ok-symbols.ensures c.in_ok-held.ensures (sym c.is_kept.ensures ∙ c.if-is_kept.false) c.in_ok-take_away.ensures)))
