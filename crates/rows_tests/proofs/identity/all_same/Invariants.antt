use Rattle.std.proofs.Common.{◌≡◌, drop}
use Rattle.semantics.specs.Tests.{all_same}
use Rattle.rows_tests.proofs.identity.all_same.Given as goal

abbrev pub invariant-loop-i : goal.invariant-loop-i
invariant-loop-i l = all_same (drop l.i l.items) ≡ all_same l.items
