-- What the program keeps for an expression of any size and depth.
--     tree_at               the tree that it stands for
--     IsCounted             the number beside it is that of its atoms, counted as far as 4,000,001, and what is not there is beyond the limits
use Rattle.std.specs.Prelude.{◌≡◌, ℕ, min}
use Rattle.expr_tree.specs.Tree.{Tree, call, size}
use Rattle.expr_tree.specs.Substitution.{put_in_place}
use Rattle.made_exprs.specs.Beyond.{IsBeyond}
use Rattle.made_exprs.specs.declared.formed.Body.{Body}
use Rattle.made_exprs.specs.declared.formed.Body.TheVariants.{Whole, Placed, Call}

abbrev pub tree_at : Body → Tree
tree_at (Whole e) = e
tree_at (Placed binders bindings e) = put_in_place binders bindings e
tree_at (Call head items) = call head.value items

abbrev pub IsThereOrBeyond : Body → Type 0
IsThereOrBeyond (Whole e) = Unit {0}
IsThereOrBeyond (Placed binders bindings e) = IsBeyond (put_in_place binders bindings e)
IsThereOrBeyond (Call head items) = IsBeyond (call head.value items)

pub record IsCounted (body : Body) (nodes : ℕ) : Type 0 where
  pub nodes_is : nodes ≡ min (size (tree_at body)) 4000001
  pub beyond : IsThereOrBeyond body
