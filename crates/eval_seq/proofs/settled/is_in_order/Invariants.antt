use Rattle.std.specs.List.Sorted.{IsSortedWithin}
use Rattle.expr_tree.specs.Order.{comes_before}
use Rattle.eval_seq.proofs.settled.is_in_order.Given as goal

abbrev pub invariant-loop-i : goal.invariant-loop-i
invariant-loop-i l = IsSortedWithin comes_before l.items 0 l.i
