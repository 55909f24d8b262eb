-- Whether two expressions are known to differ.
--     differ                both are integers or strings, and not the same
use Rattle.std.specs.Prelude.{Bool, ◌&&◌, not}
use Rattle.expr_tree.specs.Tree.{Tree}
use Rattle.expr_tree.specs.Order.{same}
use Rattle.semantics.specs.Tests.{is_datum}

abbrev pub differ : Tree → Tree → Bool
differ e f = is_datum e && (is_datum f && not (same e f))
