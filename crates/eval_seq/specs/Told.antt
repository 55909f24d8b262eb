-- What a whole evaluation says.
--     setting               what does not change during it
--     outcome_of            how it ended
--     kept_use              what it leaves of `used`
--     Says                  of the evaluation over a list of calls
--     Came                  of the play along which the steps of the outside lead
--     AfterOutcome          what holds where the outside may be called again
--     IsClosed              no section is open, or whether one is where it quit
use Rattle.std.specs.Prelude.{◌≡◌, Bool, false, is_some, Result, Ok, Err}
use Rattle.expr_tree.specs.Tree.{Tree}
use Rattle.expr_tree.specs.declared.limits.Limits.{Limits}
use Rattle.semantics.specs.Eval.{Evaluation, Wrong}
use Rattle.semantics.specs.Play.{Setting, State, Play, Over, Value, Stopped, Thrown, Quit, Closed}
use Rattle.builtin_names.specs.Named.{names_in}
use Rattle.evaluation_steps.specs.Explain.{EndsAs}
use Rattle.evaluation_steps.specs.Leads.{Step, Leads}
use Rattle.evaluation_steps.specs.declared.Exit.{Exit}
use Rattle.machine_steps.specs.Setup.{mode_of, shown_by}
use Rattle.eval_seq.specs.declared.context.Context.{Context}
use Rattle.eval_seq.specs.declared.call.Outcome.{Outcome}

abbrev pub setting : Context → Limits → Setting
setting c limits =
    record {
      names = names_in c.names.now;
      shown = shown_by c.names.now;
      mode = mode_of c.mode;
      kernel = c.kernel;
      limits = limits;
    }

abbrev pub IsThrowing : Result Tree Exit → Type 0
IsThrowing (Ok v) = ⊥
IsThrowing (Err (Exit.Stopped c)) = ⊥
IsThrowing (Err (Exit.Throwing v)) = Unit {0}
IsThrowing (Err (Exit.Thrown v)) = ⊥
IsThrowing (Err Exit.Quit) = ⊥
IsThrowing (Err Exit.Closed) = ⊥
IsThrowing (Err Exit.NoMemory) = ⊥

abbrev pub outcome_of : Result Tree Exit → Outcome
outcome_of (Ok v) = Outcome.Value v
outcome_of (Err (Exit.Stopped c)) = Outcome.Stopped c
outcome_of (Err (Exit.Throwing v)) = Outcome.NoMemory
outcome_of (Err (Exit.Thrown v)) = Outcome.Thrown v
outcome_of (Err Exit.Quit) = Outcome.Quit
outcome_of (Err Exit.Closed) = Outcome.Closed
outcome_of (Err Exit.NoMemory) = Outcome.NoMemory

-- with want of memory nothing is told of mode and kernel
abbrev pub kept_use : Outcome → State → State
kept_use (Outcome.Value e) st = st
kept_use (Outcome.Stopped c) st = st
kept_use (Outcome.Thrown e) st = st
kept_use Outcome.Quit st = st
kept_use Outcome.Closed st = st
kept_use Outcome.NoMemory st = record st { used = false }

-- with want of memory, that the list is no wrong one, and that `used` is false
abbrev pub Says : Evaluation → Outcome → State → Type 0
Says v (Outcome.Value e) st = EndsAs v (Value e) st
Says v (Outcome.Stopped c) st = EndsAs v (Stopped c) st
Says v (Outcome.Thrown e) st = EndsAs v (Thrown e) st
Says v Outcome.Quit st = EndsAs v Quit st
Says v Outcome.Closed st = EndsAs v Closed st
Says v Outcome.NoMemory st = (v.outcome ≡ Wrong → ⊥) × (st.used ≡ false)

-- to its end in this state; with want of memory to a point of the play
abbrev pub Came : {S : Type 0} → Step S → S → Play → Outcome → State → S → Type 0
Came step s t (Outcome.Value e) st z = Leads step s t (Over (Value e) st) z
Came step s t (Outcome.Stopped c) st z = Leads step s t (Over (Stopped c) st) z
Came step s t (Outcome.Thrown e) st z = Leads step s t (Over (Thrown e) st) z
Came step s t Outcome.Quit st z = Leads step s t (Over Quit st) z
Came step s t Outcome.Closed st z = Leads step s t (Over Closed st) z
Came step s t Outcome.NoMemory st z = (u : Play) × Leads step s t u z

abbrev pub AfterOutcome : Outcome → Type 0 → Type 0
AfterOutcome (Outcome.Value e) P = P
AfterOutcome (Outcome.Stopped c) P = P
AfterOutcome (Outcome.Thrown e) P = P
AfterOutcome Outcome.Quit P = P
AfterOutcome Outcome.Closed P = Unit {0}
AfterOutcome Outcome.NoMemory P = Unit {0}

-- of the state afterwards, and of what the outside tells
abbrev pub IsClosed : Outcome → State → Bool → Type 0
IsClosed (Outcome.Value e) st now = (is_some st.open_section ≡ false) × (now ≡ false)
IsClosed (Outcome.Stopped c) st now = (is_some st.open_section ≡ false) × (now ≡ false)
IsClosed (Outcome.Thrown e) st now = (is_some st.open_section ≡ false) × (now ≡ false)
IsClosed Outcome.Quit st now = now ≡ is_some st.open_section
IsClosed Outcome.Closed st now = Unit {0}
IsClosed Outcome.NoMemory st now = Unit {0}
