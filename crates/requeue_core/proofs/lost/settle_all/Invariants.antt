use Rattle.expr_tree.specs.Tree.{symbol}
use Rattle.requeue_core.proofs.Settling.{HasWalked}
use Rattle.requeue_core.proofs.lost.settle_all.Given as goal

abbrev pub invariant-loop-place : goal.invariant-loop-place
invariant-loop-place g l = HasWalked (symbol l.failed) l.k l.fn.queue l.queue l.fn.left l.left l.place
