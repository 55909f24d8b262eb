-- Pieces of a list.
--     cut                   the pieces of so many elements, from a place on
use Rattle.std.specs.Prelude.{ℕ, ◌-◌, List, length, drop}
use Rattle.expr_tree.specs.Tree.{Tree}
use Rattle.semantics.specs.Lists.{pieces}

abbrev pub cut : ℕ → ℕ → List Tree → List (List Tree)
cut n place es = pieces (length es - place) n (drop place es)
