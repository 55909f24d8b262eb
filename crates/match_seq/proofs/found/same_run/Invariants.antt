use Rattle.std.proofs.Common.{◌≡◌, drop}
use Rattle.semantics.specs.Match.{same_run}
use Rattle.match_seq.proofs.found.same_run.Given as goal

abbrev pub invariant-loop-i : goal.invariant-loop-i
invariant-loop-i l = same_run (drop l.i l.xs) (drop l.i l.ys) ≡ same_run l.xs l.ys
