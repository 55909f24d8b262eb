-- The moves of the program as the moves of machines.
--     move_of, moving       what a step answers
--     IfAsks                where the step asks
use Rattle.std.specs.Prelude.{false, Result, Ok, Err}
use Rattle.std.specs.declared.alloc.AllocError.{AllocError}
use Rattle.semantics.specs.Names.{Names}
use Rattle.semantics.specs.InPlace.{put_in_place}
use Rattle.evaluation_steps.specs.declared.Halt.{Halt}
use Rattle.evaluation_steps.specs.Moves as m
use Rattle.frames_scope.specs.Reading.{locals_in}
use Rattle.frames_scope.specs.declared.moves.ScopeMove.{ScopeMove}

abbrev pub move_of : Names → ScopeMove → m.Move
move_of names (ScopeMove.Ask e) = m.Asks e false
move_of names (ScopeMove.Within ls e) = m.Locals (locals_in ls) e false
move_of names (ScopeMove.Make ls b e) = m.Makes (locals_in ls) (put_in_place names b e)
move_of names (ScopeMove.Place b e) = m.Results (put_in_place names b e)
move_of names (ScopeMove.Done e) = m.Results e

abbrev pub moving : Names → Result ScopeMove AllocError → Result m.Move Halt
moving names (Ok move) = Ok (move_of names move)
moving names (Err e) = Err Halt.NoMemory

abbrev pub IfAsks : Result ScopeMove AllocError → Type 0 → Type 0
IfAsks (Ok (ScopeMove.Ask e)) P = P
IfAsks (Ok (ScopeMove.Within ls e)) P = P
IfAsks (Ok (ScopeMove.Make ls b e)) P = Unit {0}
IfAsks (Ok (ScopeMove.Place b e)) P = Unit {0}
IfAsks (Ok (ScopeMove.Done e)) P = Unit {0}
IfAsks (Err e) P = Unit {0}
