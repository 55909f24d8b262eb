-- Agreement on a closed set at another module number.
--     NoneToCome            no member of a set has a number that a Module may still take
--     SameButForNames       an evaluation that ends as another one, but for generated names
--     CarriedOver           evaluations from definitions that agree on a closed set, but for the module number, differ in generated names alone
use Rattle.std.specs.Prelude.{◌≡◌, ℕ, ◌+◌, ◌<◌, List, Bool, true, false}
use Rattle.expr_tree.specs.declared.sym.Sym.{Sym}
use Rattle.expr_tree.specs.Tree.{Tree}
use Rattle.semantics.specs.Names.{IsNames}
use Rattle.semantics.specs.Definitions.{Definitions}
use Rattle.semantics.specs.Play.{Setting, Value, last_number}
use Rattle.semantics.specs.Eval.{Event, Ended, Evaluation, eval}
use Rattle.laws_closure.specs.Frame.{IsClosed, AgreeOn, Members, StandsIn}
use Rattle.laws_shift.specs.Shift.{shift_outcome, below, shared_below, with_number}

abbrev pub NoneToCome : (Sym → Type 0) → Definitions → Type 0
NoneToCome C d = (s : Sym) → C s → s.number < d.module_number

-- of two evaluations the second ends as the first with its generated names shifted, in as many steps and module numbers and with no call; a value without such
-- names is the same
pub record SameButForNames (from by : ℕ) (events : List Event) (a b : Evaluation) : Type 0 where
  pub outcome : b.outcome ≡ shift_outcome from by a.outcome
  pub same_value : (v : Tree) → below from v ≡ true → a.outcome ≡ Ended (Value v) → b.outcome ≡ Ended (Value v)
  pub steps : b.steps ≡ a.steps
  pub number : b.definitions.module_number ≡ a.definitions.module_number + by
  pub used : b.used ≡ false
  pub no_call : b.rest ≡ events

-- d and c agree on a closed set, of which no member has a number that a Module may still take from d, and c has a module number that is greater by `by`
abbrev pub CarriedOver : Type 0
CarriedOver =
    (set : Setting) → IsNames set.names → (C : Sym → Bool) (by : ℕ) (d c : Definitions) → IsClosed set.names d (Members C)
    → AgreeOn set.names (Members C) (with_number (d.module_number + by) d) c → NoneToCome (Members C) d → shared_below d.module_number d.shared ≡ true
    → (e : Tree) (events : List Event) → StandsIn (Members C) e → 0 < d.module_number
    → (eval set d e events).definitions.module_number + by < last_number → (eval set d e events).used ≡ false
    → SameButForNames d.module_number by events (eval set d e events) (eval set c e events)
