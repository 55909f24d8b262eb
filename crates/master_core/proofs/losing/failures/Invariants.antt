use Rattle.std.proofs.Common.{◌≡◌, replicate}
use Rattle.expr_tree.specs.Tree.{symbol}
use Rattle.master_core.proofs.losing.failures.Given as goal

abbrev pub invariant-loop-place : goal.invariant-loop-place
invariant-loop-place l = l.values ≡ replicate l._place (symbol l.failed)
