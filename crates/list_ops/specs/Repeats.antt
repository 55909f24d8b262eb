-- A list whose first element is its second.
--     repeats
use Rattle.std.specs.Prelude.{List, ◌∷◌, Bool, false}
use Rattle.expr_tree.specs.Tree.{Tree}
use Rattle.expr_tree.specs.Order.{same}

abbrev pub repeats : List Tree → Bool
repeats (e ∷ f ∷ es) = same e f
repeats _ = false
