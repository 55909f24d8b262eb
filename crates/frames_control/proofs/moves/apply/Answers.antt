use Rattle.std.proofs.Common.{refl}
use Rattle.frames_control.proofs.Shown.{fits_shown, halts}
use Rattle.expr_tree.specs.Tree.{call}
use Rattle.frames_control.proofs.moves.apply.Goals as goal

pub returns-in-Err : goal.returns-in-Err
returns-in-Err c =
    λ rest.
    let h = rw c.in-Err.is at c.checked.ensures in
    halts _ _ _ (rw c.in_ok-head.ensures at h.by)

pub returns-in-Ok : goal.returns-in-Ok
returns-in-Ok c =
    λ rest.
    let h = rw c.in-Ok.is at c.checked.ensures in
    let f = rw c.in_ok-head.ensures at h.by in
    fits_shown (call c.args.function.now c.args.items) refl f.1 (rw f.0 refl)
