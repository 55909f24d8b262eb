-- Rows of a list of lists.
--     are_long              each of these is a List of so many elements
--     width                 the length that all rows have, where each is a List and there are any
use Rattle.std.specs.Prelude.{ℕ, ◌==◌, Bool, true, false, ◌&&◌, List, [], ◌∷◌, length, Option, Some, None}
use Rattle.expr_tree.specs.Tree.{Tree}
use Rattle.semantics.specs.declared.builtin.Builtin.{Builtin}
use Rattle.semantics.specs.Names.{Names, is_call, items_of}
use Rattle.semantics.specs.Lists.{rows_of, all_long}

abbrev pub are_long : Names → ℕ → List Tree → Bool
are_long names n [] = true
are_long names n (e ∷ es) = is_call names Builtin.List e && ((length (items_of e) == n) && are_long names n es)

abbrev pub width_of : List (List Tree) → Option ℕ
width_of [] = None
width_of (r ∷ rs) = elim (all_long (length r) rs) [ true ↦ Some (length r) | false ↦ None ]

abbrev pub width : Names → List Tree → Option ℕ
width names es = elim (rows_of names es) [ None ↦ None | Some rs ↦ width_of rs ]
