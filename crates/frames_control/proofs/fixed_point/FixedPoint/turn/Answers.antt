use Rattle.std.proofs.Common.{refl, [], ◌∷◌}
use Rattle.frames_control.proofs.Shown.{stops}
use Rattle.frames_control.proofs.Turns.{applies}
use Rattle.frames_control.proofs.fixed_point.FixedPoint.turn.Goals as goal

pub returns-then-not-take-clause-moved : goal.returns-then-not-take-clause-moved
returns-then-not-take-clause-moved c = stops (rw c.if-not-take.ensures.0 refl)

pub returns-clause-moved : goal.returns-clause-moved
returns-clause-moved c =
    applies c.args.self.now.function c.in_ok-one.field-0 (c.args.self.now.value ∷ []) (rw c.in_ok-value.ensures at c.in_ok-one.ensures) c.apply.ensures (rw c.if-not-take.ensures refl)
