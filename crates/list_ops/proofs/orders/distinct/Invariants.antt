use Rattle.std.proofs.Common.{◌≡◌, ◌++◌, drop}
use Rattle.semantics.specs.Lists.{distinct}
use Rattle.list_ops.proofs.orders.distinct.Given as goal

abbrev pub invariant-loop-i : goal.invariant-loop-i
invariant-loop-i l = l.made ++ distinct (drop l.i l.items) ≡ distinct l.items
