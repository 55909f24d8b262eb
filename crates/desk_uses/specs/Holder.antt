-- A turn that is given up and taken again.
-- IsReadyToLeave: the condition. IsNextTurn: the turn before and the turn after.
use Rattle.std.specs.Prelude.{◌≡◌, ℕ, Option, Some, None}
use Rattle.turn_desk.specs.declared.turn.Turn.{Turn}
use Rattle.turn_desk.specs.Lists.{IsPrefix, HasExactly}
use Rattle.turn_desk.specs.Passes.{TableId, by_number, seeing}
use Rattle.desk_uses.specs.declared.Notes.{Notes}

-- all is posted, and the turn is of this desk
abbrev pub IsReadyToLeave : TableId → Turn Notes ℕ → Type 0
IsReadyToLeave desk t = (t.pass.desk ≡ desk) × (t.book.items.items ≡ t.pass.seen)

-- the same pass has a turn again, and the list begins with all that it had seen
abbrev pub IsNextTurn : Option (Turn Notes ℕ) → Option (Turn Notes ℕ) → Type 0
IsNextTurn None y = y ≡ None
IsNextTurn (Some t) None = ⊥
IsNextTurn (Some t) (Some u) = (u.pass ≡ seeing t.pass u.book.items.items) × IsPrefix t.pass.seen u.book.items.items × HasExactly u.book.items.items (by_number t.pass)
