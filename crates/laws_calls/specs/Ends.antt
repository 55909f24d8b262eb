-- What an evaluation ends with, by its mode and by how its calls were answered.
--     answered, may_end     whether each call so far was answered by a value or a stop; which ends may then come in a mode
--     EndsIn                a play that comes to such an end, whatever is replied
--     EndsFit               each evaluation
--     NeverThrowing         none ends along a list of calls as a pass that throws does
use Rattle.std.specs.Prelude.{◌≡◌, List, Bool, true, false, T, not}
use Rattle.expr_tree.specs.Tree.{Tree}
use Rattle.semantics.specs.Definitions.{Definitions}
use Rattle.semantics.specs.Program.{Mode, Call}
use Rattle.semantics.specs.Play.{Setting, State, End, Value, Stopped, Throwing, Thrown, Quit, Closed, Starved, Reply, Replied, Halted, Shut, Lacking, Play, Over, Calls, whole}
use Rattle.semantics.specs.Eval.{Event, Ended, eval}
use Rattle.laws_calls.specs.Calls.{is_item}

abbrev pub answered : Reply → Bool → Bool
answered (Replied v) so_far = so_far
answered (Halted c) so_far = so_far
answered Shut so_far = false
answered Lacking so_far = false

-- Quit in an item alone; with Closed and Starved where a call was answered so; as a pass that throws never
abbrev pub may_end : Mode → Bool → End → Bool
may_end mode so_far (Value v) = true
may_end mode so_far (Stopped c) = true
may_end mode so_far (Throwing v) = false
may_end mode so_far (Thrown v) = true
may_end mode so_far Quit = is_item mode
may_end mode so_far Closed = not so_far
may_end mode so_far Starved = not so_far

-- at a point where each call was answered by a value or a stop, or one was not
pub data EndsIn (mode : Mode) : Bool → Play → Type 0 where
  at_end : {so_far : Bool} {o : End} {s : State} → T (may_end mode so_far o) → EndsIn mode so_far (Over o s)
  at_call : {so_far : Bool} {c : Call} {s : State} {k : Reply → Definitions → Play} → ((r : Reply) (d : Definitions) → EndsIn mode (answered r so_far) (k r d))
      → EndsIn mode so_far (Calls c s k)

abbrev pub EndsFit : Type 0
EndsFit = (set : Setting) (d : Definitions) (e : Tree) → EndsIn set.mode true (whole set d e)

abbrev pub NeverThrowing : Type 0
NeverThrowing = (set : Setting) (d : Definitions) (e v : Tree) (events : List Event) → (eval set d e events).outcome ≡ Ended (Throwing v) → ⊥
