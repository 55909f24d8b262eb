-- An outside that knows whether a section is open.
use Rattle.std.specs.Prelude.{◌≡◌, Bool, is_some, Result, Ok, Err}
use Rattle.semantics.specs.Definitions.{Definitions}
use Rattle.semantics.specs.Program.{Call}
use Rattle.semantics.specs.Play.{State, Reply}
use Rattle.semantics.specs.Opened.{opens}
use Rattle.evaluation_steps.specs.Leads.{Step}
use Rattle.evaluation_steps.specs.declared.Exit.{Exit}

-- Enter that is replied to opens one, Leave that is replied to closes it, and nothing else changes it
pub record Knows {S : Type 0} (step : Step S) (is_open : S → Bool) : Type 0 where
  pub by : (s m : S) (d d' : Definitions) (c : Call) (r : Reply) → step s d c r d' m → is_open m ≡ opens c r (is_open s)

abbrev pub AgreesBy : {A : Type 0} → Result A Exit → State → Bool → Type 0
AgreesBy (Ok v) st now = is_some st.open_section ≡ now
AgreesBy (Err (Exit.Stopped c)) st now = is_some st.open_section ≡ now
AgreesBy (Err (Exit.Throwing e)) st now = is_some st.open_section ≡ now
AgreesBy (Err (Exit.Thrown e)) st now = is_some st.open_section ≡ now
AgreesBy (Err Exit.Quit) st now = is_some st.open_section ≡ now
AgreesBy (Err Exit.Closed) st now = is_some st.open_section ≡ now
AgreesBy (Err Exit.NoMemory) st now = Unit {0}

-- the state after a result says whether a section is open, want of memory aside
pub record Agrees {A : Type 0} (r : Result A Exit) (st : State) (now : Bool) : Type 0 where
  pub by : AgreesBy r st now
