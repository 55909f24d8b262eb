use Rattle.std.proofs.Common.{◌≡◌, take}
use Rattle.machine_outward.proofs.loop_call.formed_copies.Given as goal

abbrev pub invariant-loop-e : goal.invariant-loop-e
invariant-loop-e l = l.formed ≡ take l.e-index l.es
