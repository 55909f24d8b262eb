use Rattle.std.proofs.Common.{refl}
use Rattle.frames_control.proofs.Shown.{shown, stops}
use Rattle.frames_control.proofs.while_loop.While.turn.Goals as goal

pub returns-then-not-take-clause-moved : goal.returns-then-not-take-clause-moved
returns-then-not-take-clause-moved c = stops (rw c.if-not-take.ensures.0 refl)

pub returns-clause-moved : goal.returns-clause-moved
returns-clause-moved c = shown (rw (c.if-not-take.ensures, c.in_ok-copy.ensures) refl)
