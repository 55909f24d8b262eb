use Rattle.std.proofs.Common.{◌≡◌, drop}
use Rattle.semantics.specs.Lists.{in_order}
use Rattle.rows_tests.proofs.questions.in_order.Given as goal

abbrev pub invariant-loop-i : goal.invariant-loop-i
invariant-loop-i l = in_order (drop l.i l.items) ≡ in_order l.items
