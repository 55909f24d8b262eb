use Rattle.std.proofs.Common.{refl, [], ◌∷◌}
use Rattle.frames_control.proofs.Shown.{shown}
use Rattle.frames_control.proofs.Turns.{applies}
use Rattle.frames_control.proofs.select.Select.turn.Goals as goal

pub returns-in_default-clause-moved : goal.returns-in_default-clause-moved
returns-in_default-clause-moved c = shown (rw (c.in_default.ensures.0, c.in_ok-head.ensures, c.take_reversed.ensures) refl)

pub returns-clause-moved : goal.returns-clause-moved
returns-clause-moved c =
    applies c.args.self.now.function c.in_ok-one.field-0 (c.in-Some.element ∷ []) c.in_ok-one.ensures c.apply.ensures
    (rw (c.in-Some.ensures, c.in_ok-push.ensures, c.in_ok-kept.ensures) refl)
