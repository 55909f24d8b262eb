use Rattle.std.proofs.Common.{refl, [], ◌∷◌}
use Rattle.frames_control.proofs.Shown.{shown}
use Rattle.frames_control.proofs.Turns.{applies}
use Rattle.frames_control.proofs.fold.Fold.turn.Goals as goal

pub returns-in-None-clause-moved : goal.returns-in-None-clause-moved
returns-in-None-clause-moved c = shown (rw c.in-None.ensures.0 refl)

pub returns-in_ok-two-in-Some-clause-moved : goal.returns-in_ok-two-in-Some-clause-moved
returns-in_ok-two-in-Some-clause-moved c =
    applies c.args.self.now.function c.in_ok-two-in-Some.field-0 (c.args.value ∷ c.in-Some.element ∷ []) c.in_ok-two-in-Some.ensures c.apply.ensures (rw c.in-Some.ensures refl)
