use Rattle.std.proofs.Common.{◌≡◌, drop, ◌∷◌, []}
use Rattle.semantics.specs.Match.{have_head}
use Rattle.match_seq.proofs.shapes.have_head.Given as goal

abbrev pub invariant-loop-e : goal.invariant-loop-e
invariant-loop-e l = have_head (l.asked ∷ []) (drop l.e-index l.run) ≡ have_head (l.asked ∷ []) l.run
