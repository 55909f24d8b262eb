use Rattle.std.proofs.Common.{◌≡◌, drop}
use Rattle.semantics.specs.Lists.{joined}
use Rattle.list_ops.proofs.Joined.{with_rest}
use Rattle.list_ops.proofs.joins.joined.Given as goal

abbrev pub invariant-loop-item : goal.invariant-loop-item
invariant-loop-item l = with_rest l.head l.made (drop l.item-index l.items) ≡ joined l.head l.items
