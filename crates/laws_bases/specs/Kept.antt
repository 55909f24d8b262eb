-- The bases of symbols: evaluation makes no new ones.
--     AreKeptIn            the bases of all symbols in definitions are below a number
--     IsKeptOutcome        those of a value, and of what was thrown
--     BasesStay            an evaluation from there gives and leaves no others
use Rattle.std.specs.Prelude.{◌≡◌, ℕ, ◌<◌, List, [], ◌∷◌, Option, Some, None, false}
use Rattle.expr_tree.specs.declared.sym.Sym.{Sym}
use Rattle.expr_tree.specs.Tree.{Tree}
use Rattle.script_text.specs.Laws.{IsKept}
use Rattle.semantics.specs.declared.builtin.Builtin.{Builtin}
use Rattle.semantics.specs.Rule.{Rule}
use Rattle.semantics.specs.Definitions.{Definition, Definitions, Shared}
use Rattle.semantics.specs.Play.{Setting, Value, Throwing, Thrown}
use Rattle.semantics.specs.Eval.{Event, Outcome, Ended, Evaluation, eval}

module _ (count : ℕ) where
  abbrev pub IsKeptValue : Option Tree → Type 0
  IsKeptValue None = Unit {0}
  IsKeptValue (Some v) = IsKept count v

  abbrev pub AreKeptRules : List Rule → Type 0
  AreKeptRules [] = Unit {0}
  AreKeptRules (r ∷ rs) = IsKept count r.left × IsKept count r.right × AreKeptRules rs

  pub record IsKeptDefinition (x : Definition) : Type 0 where
    pub own : IsKeptValue x.own
    pub downs : AreKeptRules x.downs
    pub ups : AreKeptRules x.ups

  abbrev pub AreKeptEntries : List (Sym × Definition) → Type 0
  AreKeptEntries [] = Unit {0}
  AreKeptEntries (e ∷ es) = (e.0.base < count) × IsKeptDefinition e.1 × AreKeptEntries es

  abbrev pub AreKeptShared : List Shared → Type 0
  AreKeptShared [] = Unit {0}
  AreKeptShared (e ∷ es) = (e.symbol.base < count) × AreKeptShared es

  abbrev pub AreKeptSymbols : List Sym → Type 0
  AreKeptSymbols [] = Unit {0}
  AreKeptSymbols (s ∷ ss) = (s.base < count) × AreKeptSymbols ss

  pub record AreKeptIn (d : Definitions) : Type 0 where
    pub entries : AreKeptEntries d.entries
    pub shared : AreKeptShared d.shared
    pub named : AreKeptSymbols d.named

  abbrev pub IsKeptOutcome : Outcome → Type 0
  IsKeptOutcome (Ended (Value v)) = IsKept count v
  IsKeptOutcome (Ended (Throwing v)) = IsKept count v
  IsKeptOutcome (Ended (Thrown v)) = IsKept count v
  IsKeptOutcome _ = Unit {0}

  -- and no call was made
  pub record StaysKept (events : List Event) (v : Evaluation) : Type 0 where
    pub value : IsKeptOutcome v.outcome
    pub definitions : AreKeptIn v.definitions
    pub no_call : v.rest ≡ events

-- where the rows of the table have bases below the number too, and mode and kernel do not matter
abbrev pub BasesStay : Type 0
BasesStay =
    (set : Setting) (count : ℕ) → ((row : Builtin) → set.names.place row < count)
    → (d : Definitions) (e : Tree) (events : List Event) → AreKeptIn count d → IsKept count e → (eval set d e events).used ≡ false
    → StaysKept count events (eval set d e events)
