use Rattle.std.proofs.Common.{◌≡◌, map, take}
use Rattle.semantics.specs.Match.{Test}
use Rattle.match_seq.specs.Goals.{guard_of}
use Rattle.match_seq.proofs.found.tests_of.Given as goal

abbrev pub invariant-loop-asked : goal.invariant-loop-asked
invariant-loop-asked l = map guard_of l.guards ≡ map (Test l.test) (take l.asked-index l.run)
