-- Flattening down to so many levels.
--     levels_of             how many a number asks for, and none where it is below 0; no expression is deeper than 512
--     flat_to               an expression without its inner Lists of so many levels
use Rattle.std.specs.Prelude.{ℕ, ℤ, pos, negsuc, min, Option, Some, None}
use Rattle.expr_tree.specs.Tree.{Tree, normal, call}
use Rattle.semantics.specs.Names.{Names}
use Rattle.semantics.specs.Worked.{Worked, Stays, Gives}
use Rattle.semantics.specs.Lists.{flat_items}

abbrev pub levels_of : ℤ → Option ℕ
levels_of (pos n) = Some (min n 512)
levels_of (negsuc n) = None

abbrev pub flat_to : Names → Tree → ℕ → Worked
flat_to names (normal h es) d = Gives (call h (flat_items names es d))
flat_to names _ d = Stays
