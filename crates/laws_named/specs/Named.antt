-- Applications that are quiet but for generated names, wherever they are evaluated.
--     GivesNoNames          an application that gives a value without generated names, from a closure without any; mode and kernel do not matter
--     QuietGivesNone        one that is quiet but for generated names is such an application
--     QuietNumbersPaid      each module number that it takes is paid with a step
--     ReachedNumbersPaid    so are those of an application from which no row can be reached by which there may be a throw
--     GivesValue            an evaluation that gives this value, as the application does by itself
--     GivenAnywhere         an application that gives no names gives its value from definitions that agree on the closure, whatever module number they have
--     NamedAnywhere         so does one that is quiet but for generated names
use Rattle.std.specs.Prelude.{◌≡◌, ℕ, ◌+◌, ◌≤◌, ◌<◌, List, ◌++◌, true, false}
use Rattle.expr_tree.specs.Tree.{Tree}
use Rattle.semantics.specs.Names.{IsNames}
use Rattle.semantics.specs.Definitions.{Definitions}
use Rattle.semantics.specs.Program.{Mode}
use Rattle.semantics.specs.Play.{Value, last_number}
use Rattle.semantics.specs.Eval.{Event, Ended, Evaluation, eval}
use Rattle.journal.specs.Closure.{symbols_of, InClosure}
use Rattle.journal.specs.Core.{Setup, in_mode}
use Rattle.journal.specs.Quiet.{bare, by_itself, symbols_of_entries, IsQuietNamed}
use Rattle.laws_closure.specs.Frame.{AgreeOn}
use Rattle.laws_closure.specs.Throws.{none_throws}
use Rattle.laws_numbers.specs.Bound.{going_on}
use Rattle.laws_quiet.specs.Quiet.{NoNameShared}
use Rattle.laws_shift.specs.Shift.{below, shared_below, with_number}
use Rattle.laws_shift.specs.Carried.{NoneToCome}

-- modules have begun to be numbered, as at the start of a script, and no shared symbol has a number that one may still take
pub record IsNumbered (d : Definitions) : Type 0 where
  pub started : 0 < d.module_number
  pub shared : shared_below d.module_number d.shared ≡ true

-- as a kernel evaluates it that knows its bundle alone; the definitions of generated names that it makes do not matter
pub record GivesNoNames (set : Setup) (d : Definitions) (a : Tree) : Type 0 where
  pub value : Tree
  pub gives : (by_itself set d a).outcome ≡ Ended (Value value)
  pub unused : (by_itself set d a).used ≡ false
  -- no name that a Module may make from d stands in the value or in the closure
  pub plain : below d.module_number value ≡ true
  pub none_to_come : NoneToCome (InClosure set.names d (symbols_of a)) d

-- and it is the same value
pub record GivesNone (set : Setup) (d : Definitions) (a value : Tree) : Type 0 where
  pub one : GivesNoNames set d a
  pub same_value : one.value ≡ value

abbrev pub QuietGivesNone : Type 0
QuietGivesNone = (set : Setup) (d : Definitions) → IsNumbered d → (a : Tree) (quiet : IsQuietNamed set d a) → GivesNone set d a quiet.value

-- its list of names has neither Throw nor Catch, nor Attributes
abbrev pub QuietNumbersPaid : Type 0
QuietNumbersPaid =
    (set : Setup) → IsNames set.names → (d : Definitions) → 0 < d.module_number → (a : Tree) → IsQuietNamed set d a
    → (by_itself set d a).definitions.module_number ≤ d.module_number + (by_itself set d a).steps

-- what can be reached stands in the application or in the own values and rules of its bundle; c agrees with d there, as the master's definitions do
-- and those of a kernel
abbrev pub ReachedNumbersPaid : Type 0
ReachedNumbersPaid =
    (set : Setup) → IsNames set.names → (d : Definitions) → NoNameShared set.names d → 0 < d.module_number → (a : Tree)
    → none_throws set.names (symbols_of a ++ symbols_of_entries (bare set d a).entries) ≡ true
    → (c : Definitions) → AgreeOn set.names (InClosure set.names d (symbols_of a)) d c → (mode : Mode) (kernel : ℕ) (events : List Event)
    → (eval (in_mode set mode kernel) c a events).used ≡ false
    → (eval (in_mode set mode kernel) c a events).definitions.module_number
    ≤ c.module_number + ((eval (in_mode set mode kernel) c a events).steps + going_on set.limits.recursion (eval (in_mode set mode kernel) c a events).outcome)

-- from definitions with a module number that is greater by `by`
pub record GivesValue (set : Setup) (d : Definitions) (a value : Tree) (by : ℕ) (events : List Event) (result : Evaluation) : Type 0 where
  pub outcome : result.outcome ≡ Ended (Value value)
  pub steps : result.steps ≡ (by_itself set d a).steps
  pub number : result.definitions.module_number ≡ (by_itself set d a).definitions.module_number + by
  pub used : result.used ≡ false
  pub no_call : result.rest ≡ events

-- c are a kernel's definitions with the bundle put in, or the master's
abbrev pub GivenAnywhere : Type 0
GivenAnywhere =
    (set : Setup) → IsNames set.names → (d : Definitions) → NoNameShared set.names d → IsNumbered d → (a : Tree) (one : GivesNoNames set d a)
    → (by : ℕ) (c : Definitions) → AgreeOn set.names (InClosure set.names d (symbols_of a)) (with_number (d.module_number + by) d) c
    → (by_itself set d a).definitions.module_number + by < last_number
    → (mode : Mode) (kernel : ℕ) (events : List Event) → GivesValue set d a one.value by events (eval (in_mode set mode kernel) c a events)

abbrev pub NamedAnywhere : Type 0
NamedAnywhere =
    (set : Setup) → IsNames set.names → (d : Definitions) → NoNameShared set.names d → IsNumbered d → (a : Tree) (quiet : IsQuietNamed set d a)
    → (by : ℕ) (c : Definitions) → AgreeOn set.names (InClosure set.names d (symbols_of a)) (with_number (d.module_number + by) d) c
    → d.module_number + by + set.limits.steps < last_number
    → (mode : Mode) (kernel : ℕ) (events : List Event) → GivesValue set d a quiet.value by events (eval (in_mode set mode kernel) c a events)
