-- The shift of the numbers of symbols: a symbol with a number of at least `from` has a number that is greater by `by`, and each other stays.
--     shift                 an expression with its symbols shifted
--     shift_definitions     definitions with their symbols shifted, those that they are kept under too, and with a greater module number
--     shift_evaluation      a result with its value and its definitions shifted
--     ShiftedNames          a shifted expression is evaluated from shifted definitions to the shifted result
--     below                 whether each symbol's number is below a bound
--     definitions_below     the same of definitions
--     AnyModuleNumber       from a greater module number only generated names differ
use Rattle.std.specs.Prelude.{◌≡◌, ℕ, ◌+◌, ◌≤◌, ◌<◌, List, [], ◌∷◌, map, Option, Some, None, Bool, true, false, ltb, ◌&&◌}
use Rattle.expr_tree.specs.declared.sym.Sym.{Sym}
use Rattle.expr_tree.specs.Tree.{Tree, integer, string, symbol, normal, Trees, nil, cons}
use Rattle.semantics.specs.Rule.{Rule}
use Rattle.semantics.specs.Definitions.{Definition, Definitions, Shared}
use Rattle.semantics.specs.Play.{Setting, Value, Throwing, Thrown, last_number}
use Rattle.semantics.specs.Eval.{Event, Outcome, Ended, Evaluation, eval}
use Rattle.laws_relations.specs.Order.{shifted_symbol}

abbrev mutual
  pub shift : ℕ → ℕ → Tree → Tree
  shift from by (integer n) = integer n
  shift from by (string t) = string t
  shift from by (symbol s) = symbol (shifted_symbol from by s)
  shift from by (normal h es) = normal (shift from by h) (shift_items from by es)

  pub shift_items : ℕ → ℕ → Trees → Trees
  shift_items from by nil = nil
  shift_items from by (cons e es) = cons (shift from by e) (shift_items from by es)

abbrev pub shift_value : ℕ → ℕ → Option Tree → Option Tree
shift_value from by None = None
shift_value from by (Some v) = Some (shift from by v)

abbrev pub shift_rule : ℕ → ℕ → Rule → Rule
shift_rule from by r = record { left = shift from by r.left; right = shift from by r.right }

abbrev pub shift_definition : ℕ → ℕ → Definition → Definition
shift_definition from by d =
    record { attributes = d.attributes; own = shift_value from by d.own; downs = map (shift_rule from by) d.downs; ups = map (shift_rule from by) d.ups }

abbrev pub shift_entry : ℕ → ℕ → Sym × Definition → Sym × Definition
shift_entry from by e = (shifted_symbol from by e.0, shift_definition from by e.1)

abbrev pub shift_shared : ℕ → ℕ → Shared → Shared
shift_shared from by e = record { symbol = shifted_symbol from by e.symbol; kind = e.kind; attributes = e.attributes }

abbrev pub shift_definitions : ℕ → ℕ → Definitions → Definitions
shift_definitions from by d =
    record {
      entries = map (shift_entry from by) d.entries;
      shared = map (shift_shared from by) d.shared;
      named = map (shifted_symbol from by) d.named;
      module_number = d.module_number + by;
    }

abbrev pub shift_outcome : ℕ → ℕ → Outcome → Outcome
shift_outcome from by (Ended (Value v)) = Ended (Value (shift from by v))
shift_outcome from by (Ended (Throwing v)) = Ended (Throwing (shift from by v))
shift_outcome from by (Ended (Thrown v)) = Ended (Thrown (shift from by v))
shift_outcome from by o = o

-- the steps, `used` and the rest of the list of calls stay
abbrev pub shift_evaluation : ℕ → ℕ → Evaluation → Evaluation
shift_evaluation from by a =
    record {
      outcome = shift_outcome from by a.outcome;
      definitions = shift_definitions from by a.definitions;
      steps = a.steps;
      used = a.used;
      rest = a.rest;
    }

-- Where names without a number stay, as those of the table are, where no number that a Module may still take stays, and where the number
-- that the evaluation ends with is below the last one though it is shifted: an evaluation that ends with `used` false goes, shifted, the same way.
abbrev pub ShiftedNames : Type 0
ShiftedNames =
    (set : Setting) (from by : ℕ) (d : Definitions) (e : Tree) (events : List Event) → 0 < from → from ≤ d.module_number
    → (eval set d e events).definitions.module_number + by < last_number → (eval set d e events).used ≡ false
    → eval set (shift_definitions from by d) (shift from by e) events ≡ shift_evaluation from by (eval set d e events)

-- ---- where no symbol has a number that a Module may still take

abbrev mutual
  pub below : ℕ → Tree → Bool
  below n (integer i) = true
  below n (string t) = true
  below n (symbol s) = ltb s.number n
  below n (normal h es) = below n h && items_below n es

  pub items_below : ℕ → Trees → Bool
  items_below n nil = true
  items_below n (cons e es) = below n e && items_below n es

abbrev pub value_below : ℕ → Option Tree → Bool
value_below n None = true
value_below n (Some v) = below n v

abbrev pub rules_below : ℕ → List Rule → Bool
rules_below n [] = true
rules_below n (r ∷ rs) = below n r.left && below n r.right && rules_below n rs

abbrev pub entries_below : ℕ → List (Sym × Definition) → Bool
entries_below n [] = true
entries_below n (e ∷ es) = ltb e.0.number n && value_below n e.1.own && rules_below n e.1.downs && rules_below n e.1.ups && entries_below n es

abbrev pub shared_below : ℕ → List Shared → Bool
shared_below n [] = true
shared_below n (e ∷ es) = ltb e.symbol.number n && shared_below n es

abbrev pub named_below : ℕ → List Sym → Bool
named_below n [] = true
named_below n (s ∷ ss) = ltb s.number n && named_below n ss

abbrev pub definitions_below : ℕ → Definitions → Bool
definitions_below n d = entries_below n d.entries && shared_below n d.shared && named_below n d.named

abbrev pub with_number : ℕ → Definitions → Definitions
with_number n d = record d { module_number = n }

-- b is a with its generated names shifted, and a value without such names is the same
pub record DiffersInNames (from by : ℕ) (a b : Evaluation) : Type 0 where
  pub shifted : b ≡ shift_evaluation from by a
  pub same_value : (v : Tree) → below from v ≡ true → a.outcome ≡ Ended (Value v) → b.outcome ≡ Ended (Value v)

-- where no symbol of the expression and of the definitions has a number that a Module may still take, an evaluation that ends with `used`
-- false goes the same way from a greater module number
abbrev pub AnyModuleNumber : Type 0
AnyModuleNumber =
    (set : Setting) (by : ℕ) (d : Definitions) (e : Tree) (events : List Event) → 0 < d.module_number
    → definitions_below d.module_number d ≡ true → below d.module_number e ≡ true
    → (eval set d e events).definitions.module_number + by < last_number → (eval set d e events).used ≡ false
    → DiffersInNames d.module_number by (eval set d e events) (eval set (with_number (d.module_number + by) d) e events)
