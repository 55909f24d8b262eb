-- The elements of a list but for the last.
--     front_of              nothing where there is none
use Rattle.std.specs.Prelude.{List, [], ◌∷◌, Option, Some, None}
use Rattle.expr_tree.specs.Tree.{Tree}
use Rattle.semantics.specs.Lists.{but_last}

abbrev pub front_of : List Tree → Option (List Tree)
front_of [] = None
front_of (e ∷ es) = Some (but_last (e ∷ es))
