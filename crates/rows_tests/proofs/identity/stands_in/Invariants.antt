use Rattle.std.proofs.Common.{◌≡◌, drop}
use Rattle.semantics.specs.Tests.{stands_in}
use Rattle.rows_tests.proofs.identity.stands_in.Given as goal

abbrev pub invariant-loop-item : goal.invariant-loop-item
invariant-loop-item l = stands_in l.e (drop l.item-index l.items) ≡ stands_in l.e l.items
