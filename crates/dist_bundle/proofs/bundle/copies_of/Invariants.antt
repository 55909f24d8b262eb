use Rattle.std.proofs.Common.{◌≡◌, ◌++◌, drop, map}
use Rattle.dist_bundle.specs.Bundle.{entry_in}
use Rattle.dist_bundle.proofs.bundle.copies_of.Given as goal

abbrev pub invariant-loop-entry : goal.invariant-loop-entry
invariant-loop-entry l = map entry_in l.copies.items ++ map entry_in (drop l.entry-index l.entries) ≡ map entry_in l.entries
