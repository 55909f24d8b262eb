use Rattle.std.proofs.Common.{refl}
use Rattle.frames_control.proofs.Shown.{shown}
use Rattle.frames_control.proofs.choice.Chosen.step.Goals as goal

pub returns-clause-moved : goal.returns-clause-moved
returns-clause-moved c = shown (rw c.in_ok-copy.ensures refl)
