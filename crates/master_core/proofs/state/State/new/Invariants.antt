use Rattle.std.proofs.Common.{◌≡◌, ◌∷◌, replicate, None}
use Rattle.master_core.proofs.state.State.new.Given as goal

abbrev pub invariant-loop-kernel : goal.invariant-loop-kernel
invariant-loop-kernel l = l.attempts.items ≡ None ∷ replicate l._kernel None
