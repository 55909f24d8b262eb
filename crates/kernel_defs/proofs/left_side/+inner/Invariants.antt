use Rattle.expr_tree.specs.Tree.{depth}
use Rattle.kernel_defs.proofs.left_side.+inner.Given as goal

abbrev pub decreases-inner : goal.decreases-inner
decreases-inner l = depth l.left.now
