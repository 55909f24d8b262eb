-- What Print shows of one value.
use Rattle.std.specs.Prelude.{ℕ, List}
use Rattle.expr_tree.specs.Tree.{Tree, string}

abbrev pub printed_one : (Tree → List ℕ) → Tree → List ℕ
printed_one shown (string t) = t
printed_one shown e = shown e
