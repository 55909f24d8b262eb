-- The parts of an expression.
--     parts                 it, the parts of its head, and those of its elements, in this order
use Rattle.std.specs.Prelude.{List, [], ◌∷◌, ◌++◌}
use Rattle.expr_tree.specs.Tree.{Tree, integer, string, symbol, normal, Trees, nil, cons}

abbrev mutual
  pub parts : Tree → List Tree
  parts (integer n) = integer n ∷ []
  parts (string t) = string t ∷ []
  parts (symbol s) = symbol s ∷ []
  parts (normal h es) = normal h es ∷ (parts h ++ parts_in es)

  pub parts_in : Trees → List Tree
  parts_in nil = []
  parts_in (cons e es) = parts e ++ parts_in es
