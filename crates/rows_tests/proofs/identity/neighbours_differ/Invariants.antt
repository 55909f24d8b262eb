use Rattle.std.proofs.Common.{◌≡◌, drop}
use Rattle.semantics.specs.Tests.{neighbours_differ}
use Rattle.rows_tests.proofs.identity.neighbours_differ.Given as goal

abbrev pub invariant-loop-i : goal.invariant-loop-i
invariant-loop-i l = neighbours_differ (drop l.i l.items) ≡ neighbours_differ l.items
