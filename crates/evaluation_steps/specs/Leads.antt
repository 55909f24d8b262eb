-- Steps of the outside lead from one point of an evaluation to a later one.
--     Step          what a step of the outside is
--     exit_of       what a halt is to the evaluation
--     Leads         from a state of the outside and a play to a later state and what is left of the play
--     Went          the same up to a result
use Rattle.std.specs.Prelude.{Result, Ok, Err}
use Rattle.semantics.specs.Definitions.{Definitions}
use Rattle.semantics.specs.Program.{Call}
use Rattle.semantics.specs.Play.{State, Reply, Play, Over, Calls, Stopped, Throwing, Thrown, Quit, Closed}
use Rattle.evaluation_steps.specs.declared.Exit.{Exit}
use Rattle.evaluation_steps.specs.declared.Halt.{Halt}

abbrev pub exit_of : Halt → Exit
exit_of (Halt.Stopped c) = Exit.Stopped c
exit_of Halt.NoMemory = Exit.NoMemory

abbrev pub Step : Type 0 → Type 1
Step S = S → Definitions → Call → Reply → Definitions → S → Type 0

pub data Leads {S : Type 0} (step : S → Definitions → Call → Reply → Definitions → S → Type 0) : S → Play → Play → S → Type 0 where
  here : {s : S} {t : Play} → Leads step s t t s
  called : {s m z : S} {c : Call} {st : State} {k : Reply → Definitions → Play} {r : Reply} {d : Definitions} {t : Play} →
      step s st.definitions c r d m → Leads step m (k r d) t z → Leads step s (Calls c st k) t z

-- The evaluation came from t at s to this result: k of the value is left, or all is over.
-- With want of memory it stands somewhere.
abbrev pub Came : {S A : Type 0} → Step S → S → Play → Result A Exit → (A → Play) → State → S → Type 0
Came step s t (Ok v) k st z = Leads step s t (k v) z
Came step s t (Err (Exit.Stopped c)) k st z = Leads step s t (Over (Stopped c) st) z
Came step s t (Err (Exit.Throwing v)) k st z = Leads step s t (Over (Throwing v) st) z
Came step s t (Err (Exit.Thrown v)) k st z = Leads step s t (Over (Thrown v) st) z
Came step s t (Err Exit.Quit) k st z = Leads step s t (Over Quit st) z
Came step s t (Err Exit.Closed) k st z = Leads step s t (Over Closed st) z
Came step s t (Err Exit.NoMemory) k st z = (u : Play) × Leads step s t u z

pub record Went {S A : Type 0} (step : Step S) (s : S) (t : Play) (r : Result A Exit) (k : A → Play) (st : State) (z : S) : Type 0 where
  pub by : Came step s t r k st z
