use Rattle.std.proofs.Common.{◌≡◌, drop}
use Rattle.semantics.specs.Tests.{some_same}
use Rattle.rows_tests.proofs.identity.some_same.Given as goal

abbrev pub invariant-loop-i : goal.invariant-loop-i
invariant-loop-i l = some_same (drop l.i l.items) ≡ some_same l.items
