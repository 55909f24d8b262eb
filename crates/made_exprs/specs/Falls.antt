-- The head and the elements of a call are less deep than it is.
use Rattle.std.specs.Prelude.{◌+◌, ◌≤◌, max, List, [], ◌∷◌}
use Rattle.std.proofs.Common.{arith}
use denote.Param.Weighed.{most}
use Rattle.expr_tree.specs.Tree.{Tree, trees, depth, depths}
use Rattle.made_exprs.specs.View.{tree_at}
use Rattle.made_exprs.specs.declared.formed.Body.{Body}
use Rattle.made_exprs.specs.declared.formed.Body.TheVariants.{Whole, Placed, Call}
use Rattle.made_exprs.specs.declared.formed.Formed.TheDeep.{deep-Body}

most_le-depths : (ts : List Tree) → most (λ t. depth t + 1) ts ≤ depths (trees ts) + 1
most_le-depths [] = omega arith
most_le-depths (t ∷ ts) = omega (arith, most_le-depths ts)

pub children_depth : (b : Body) → max (deep-Body b) 0 ≤ depth (tree_at b)
children_depth (Whole e) = omega arith
children_depth (Placed binders bindings e) = omega arith
children_depth (Call head items) = omega (arith, most_le-depths items)
