-- The end of a cell.
--     ends_cell             a value, a stop or a throw
--     EndsOutside           where it comes to its end along a journal, that is one of these, and no section is open
--     CellsEndOutside       each cell
use Rattle.std.specs.Prelude.{◌≡◌, Bool, true, false, T, is_some}
use Rattle.expr_tree.specs.Tree.{Tree}
use Rattle.semantics.specs.Definitions.{Definitions}
use Rattle.semantics.specs.Program.{Mode}
use Rattle.semantics.specs.Play.{End, Value, Stopped, Throwing, Thrown, Quit, Closed, Starved, whole}
use Rattle.journal.specs.Core.{Setup, in_mode}
use Rattle.journal.specs.Run.{Walk, Course, Goes, UsedUp, Differs, Finish, play_along}

abbrev pub ends_cell : End → Bool
ends_cell (Value v) = true
ends_cell (Stopped c) = true
ends_cell (Throwing v) = false
ends_cell (Thrown v) = true
ends_cell Quit = false
ends_cell Closed = false
ends_cell Starved = false

abbrev pub EndsOutside : Course (Finish × Walk) → Type 0
EndsOutside (Goes r) = T (ends_cell (r.0).end) × (is_some (r.0).state.open_section ≡ false)
EndsOutside (UsedUp w) = Unit {0}
EndsOutside Differs = Unit {0}

abbrev pub CellsEndOutside : Type 0
CellsEndOutside = (set : Setup) (d : Definitions) (e : Tree) (w : Walk) → EndsOutside (play_along set (whole (in_mode set Mode.Cell 0) d e) w)
