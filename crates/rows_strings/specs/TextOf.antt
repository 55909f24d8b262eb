-- The text of a string.
--     text_of               nothing where the expression is no string
use Rattle.std.specs.Prelude.{ℕ, List, Option, Some, None}
use Rattle.expr_tree.specs.Tree.{Tree, string}

abbrev pub text_of : Tree → Option (List ℕ)
text_of (string t) = Some t
text_of _ = None
