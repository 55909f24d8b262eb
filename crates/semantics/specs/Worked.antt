-- What a row of the built-in table makes of its elements alone.
--     Worked                nothing, an expression, or a number out of range
--     gives_int             an integer, where it is in range
use Rattle.std.specs.Prelude.{ℤ, Bool, true, false, List, [], ◌∷◌}
use Rattle.expr_tree.specs.Limits.{in_range}
use Rattle.expr_tree.specs.Tree.{Tree, integer}

pub data Worked : Type 0 where
  Stays : Worked
  Gives : Tree → Worked
  TooWide : Worked

abbrev pub gives_int : ℤ → Worked
gives_int n = elim (in_range n) [ true ↦ Gives (integer n) | false ↦ TooWide ]

abbrev pub all_in_range : List ℤ → Bool
all_in_range [] = true
all_in_range (n ∷ ns) = elim (in_range n) [ true ↦ all_in_range ns | false ↦ false ]
