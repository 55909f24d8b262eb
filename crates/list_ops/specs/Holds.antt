-- The heads that ReleaseHold takes off.
--     is_hold               Hold, HoldComplete or HoldPattern
use Rattle.std.specs.Prelude.{Bool, ◌||◌}
use Rattle.expr_tree.specs.Tree.{Tree}
use Rattle.semantics.specs.declared.builtin.Builtin.{Builtin}
use Rattle.semantics.specs.Names.{Names, is_name}

abbrev pub is_hold : Names → Tree → Bool
is_hold names h = is_name names Builtin.Hold h || (is_name names Builtin.HoldComplete h || is_name names Builtin.HoldPattern h)
