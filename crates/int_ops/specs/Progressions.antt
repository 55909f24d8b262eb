-- Integers from a start by a step up to an end.
--     reaches               an integer does not pass the end
--     walk                  the integers that are left
use Rattle.std.specs.Prelude.{ℤ, pos, int_lt, int_le, Bool, ◌&&◌, ◌||◌, List, [], Option, Some, None}
use Rattle.expr_tree.specs.Tree.{Tree}
use Rattle.semantics.specs.Control.{steps_to}
use Rattle.semantics.specs.Lists.{count_up}

abbrev pub reaches : ℤ → ℤ → ℤ → Bool
reaches a b d = int_lt (pos 0) d && int_le a b || int_lt d (pos 0) && int_le b a

abbrev pub walk : Option ℤ → ℤ → ℤ → List Tree
walk None b d = []
walk (Some a) b d = count_up a d (steps_to a b d)
