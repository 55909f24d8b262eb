-- The elements of an expression with a given head.
--     under                 nothing where the expression is an atom, or has another head
use Rattle.std.specs.Prelude.{List, true, false, Option, Some, None}
use Rattle.expr_tree.specs.Order.{same}
use Rattle.expr_tree.specs.Tree.{Tree, normal, elements}

abbrev pub under : Tree → Tree → Option (List Tree)
under h (normal g fs) = elim (same h g) [ true ↦ Some (elements fs) | false ↦ None ]
under h _ = None
