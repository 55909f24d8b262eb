-- The moves of the program as the moves of machines.
--     moving                what a step answers
--     IfAsks                where the step asks
--     Starts                a form begins with a machine, or stays as it is
use Rattle.std.specs.Prelude.{◌≡◌, List, [], ◌∷◌, Option, Some, None, Result, Ok, Err}
use Rattle.expr_tree.specs.Tree.{Tree, call}
use Rattle.semantics.specs.Program as p
use Rattle.semantics.specs.Program.{Prog}
use Rattle.evaluation_steps.specs.declared.Halt.{Halt}
use Rattle.evaluation_steps.specs.Moves as m
use Rattle.frames_control.specs.declared.moves.ControlMove.{ControlMove}
use Rattle.frames_control.specs.declared.moves.Local.{Local}

abbrev pub local_of : Option Local → List p.Local
local_of None = []
local_of (Some l) = record { symbol = l.symbol; value = Some l.value } ∷ []

abbrev pub move_of : ControlMove → m.Move
move_of (ControlMove.Ask e turn) = m.Asks e turn
move_of (ControlMove.Local l e turn) = m.Locals (local_of l) e turn
move_of (ControlMove.Unless s e) = m.Unless s e
move_of (ControlMove.Done e) = m.Results e
move_of (ControlMove.Build h es) = m.Results (call h es)

abbrev pub moving : Result ControlMove Halt → Result m.Move Halt
moving (Ok m) = Ok (move_of m)
moving (Err h) = Err h

abbrev pub IfAsks : Result ControlMove Halt → Type 0 → Type 0
IfAsks (Ok (ControlMove.Ask e turn)) P = P
IfAsks (Ok (ControlMove.Local l e turn)) P = P
IfAsks (Ok (ControlMove.Unless s e)) P = P
IfAsks (Ok (ControlMove.Done e)) P = Unit {0}
IfAsks (Ok (ControlMove.Build h es)) P = Unit {0}
IfAsks (Err h) P = Unit {0}

-- p is the program of a machine before its first question, or `stay`
abbrev pub StartsBy : {F E : Type 0} → (F → Option Tree → Prog) → Prog → Prog → Result (Option F) E → Type 0
StartsBy left p stay (Ok (Some f)) = p ≡ left f None
StartsBy left p stay (Ok None) = p ≡ stay
StartsBy left p stay (Err e) = Unit {0}

pub record Starts {F E : Type 0} (left : F → Option Tree → Prog) (p stay : Prog) (r : Result (Option F) E) : Type 0 where
  pub by : StartsBy left p stay r
