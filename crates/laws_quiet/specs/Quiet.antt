-- Quiet applications, wherever they are evaluated.
--     NoNameShared          no name of the table is a shared symbol
--     GivesAlone            an evaluation that gives what the application gives by itself, and changes nothing on its closure
--     results               applications evaluated in turn, each with fresh limits
--     QuietAnywhere         a quiet application does so from its bundle on any kernel, and from the master's definitions
--     BatchAnywhere         a list of quiet applications does so, evaluated in turn
--     AttemptDelivers       a kernel's attempt at a quiet application, or at a list of them, delivers these values
use Rattle.std.specs.Prelude.{◌≡◌, ℕ, List, [], ◌∷◌, map, true, false}
use Rattle.expr_tree.specs.declared.sym.Sym.{Sym}
use Rattle.expr_tree.specs.Tree.{Tree}
use Rattle.semantics.specs.Names.{Names, IsNames}
use Rattle.semantics.specs.Definitions.{Definitions}
use Rattle.semantics.specs.Program.{Mode}
use Rattle.semantics.specs.Play.{Setting, End}
use Rattle.semantics.specs.Eval.{Event, Outcome, Evaluation, eval}
use Rattle.journal.specs.Closure.{symbols_of, symbols_of_all, is_row, is_shared, InClosure, bundle, install}
use Rattle.journal.specs.Core.{Setup, in_mode}
use Rattle.journal.specs.declared.item.Item.{Item}
use Rattle.journal.specs.Follow.{Attempt, attempt, batch_value}
use Rattle.journal.specs.Quiet.{by_itself, IsQuiet, Quiet, alone}
use Rattle.laws_closure.specs.Frame.{AgreeOn, Unchanged}

abbrev pub NoNameShared : Names → Definitions → Type 0
NoNameShared names d = (s : Sym) → is_row names s ≡ true → is_shared d s ≡ false

-- a value, in as many steps as by itself, with no call; of the definitions c from which it began those on the closure are as they were,
-- and so are those of all other symbols
pub record GivesAlone (set : Setup) (d : Definitions) (a value : Tree) (events : List Event) (c : Definitions) (result : Evaluation) : Type 0 where
  pub outcome : result.outcome ≡ Outcome.Ended (End.Value value)
  pub steps : result.steps ≡ (by_itself set d a).steps
  pub used : result.used ≡ false
  pub no_call : result.rest ≡ events
  pub after : AgreeOn set.names (InClosure set.names d (symbols_of a)) c result.definitions
  pub unchanged : Unchanged set.names (InClosure set.names d (symbols_of a)) c result.definitions

-- the definitions that one leaves are those that the next begins from
abbrev pub results : Setting → Definitions → List Tree → List Outcome
results set d [] = []
results set d (a ∷ as') = (eval set d a []).outcome ∷ results set (eval set d a []).definitions as'

-- d are the master's definitions; `left` is what a kernel knows from earlier items. In every mode, for every kernel number
abbrev pub QuietAnywhere : Type 0
QuietAnywhere =
    (set : Setup) → IsNames set.names → (d : Definitions) → NoNameShared set.names d → (a : Tree) (quiet : IsQuiet set d a)
    → (mode : Mode) (kernel : ℕ) (left : Definitions) (events : List Event)
    → GivesAlone set d a quiet.value events (install set.names left (bundle set.names d (symbols_of a)))
    (eval (in_mode set mode kernel) (install set.names left (bundle set.names d (symbols_of a))) a events)
    × GivesAlone set d a quiet.value events d (eval (in_mode set mode kernel) d a events)

abbrev pub as_values : List Tree → List Outcome
as_values vs = map (λ v. Outcome.Ended (End.Value v)) vs

-- the bundle is that of the whole list. Each gives its value by itself, in the order of the list
abbrev pub BatchAnywhere : Type 0
BatchAnywhere =
    (set : Setup) → IsNames set.names → (d : Definitions) → NoNameShared set.names d → (es : List Tree) → Quiet set d es
    → (mode : Mode) (kernel : ℕ) (left : Definitions)
    → (results (in_mode set mode kernel) (install set.names left (bundle set.names d (symbols_of_all es))) es ≡ as_values (alone set d es))
    × (results (in_mode set mode kernel) d es ≡ as_values (alone set d es))

-- an attempt that makes no call and delivers this
pub record DeliversAtOnce (value : Tree) (a : Attempt) : Type 0 where
  pub after : Definitions
  pub delivers : a ≡ Attempt.Delivers value after

-- a kernel's attempt at an item, from its bundle: of one quiet application, and of a list of them
abbrev pub AttemptDelivers : Type 0
AttemptDelivers =
    (set : Setup) → IsNames set.names → (d : Definitions) → NoNameShared set.names d → (kernel : ℕ) (left : Definitions)
    → ((a : Tree) (quiet : IsQuiet set d a) → DeliversAtOnce quiet.value (attempt set kernel (Item.Plain a) (install set.names left (bundle set.names d (symbols_of a)))))
    × ((es : List Tree) → Quiet set d es
    → DeliversAtOnce (batch_value set (alone set d es)) (attempt set kernel (Item.Batch es) (install set.names left (bundle set.names d (symbols_of_all es)))))
