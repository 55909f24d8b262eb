use Rattle.std.proofs.Common.{refl}
use Rattle.frames_control.proofs.Shown.{shown}
use Rattle.frames_control.proofs.connected.Connected.next_element.Goals as goal

pub returns-in-Some-clause-moved : goal.returns-in-Some-clause-moved
returns-in-Some-clause-moved c = shown (rw c.in-Some.ensures refl)
