-- Applications that give the same wherever they are evaluated.
--     by_itself                     an application evaluated by a kernel that knows its bundle alone
--     IsQuiet, Quiet                it gives a value, changes no definition, and mode and kernel do not matter; each of a list does so
--     alone                         the values of a list of such applications
--     quiet_value                   the value of an application that is quiet; none of another
--     IsQuietNamed, QuietNamed      quiet but for generated names: a Module may take numbers, and nothing of it is seen
--     quiet_named_value             the value of such an application; none of another
use Rattle.std.specs.Prelude.{◌≡◌, ◌≤◌, ℕ, leb, ltb, List, [], ◌∷◌, ◌++◌, map, Bool, true, false, ◌&&◌, not, ◌==◌, Option, Some, None}
use Rattle.expr_tree.specs.declared.sym.Sym.{Sym}
use Rattle.expr_tree.specs.Tree.{Tree, size, depth}
use Rattle.expr_tree.specs.Order.{same, same_symbol}
use Rattle.semantics.specs.declared.builtin.Builtin.{Builtin}
use Rattle.semantics.specs.Names.{Names, role_of}
use Rattle.semantics.specs.Rule.{Rule}
use Rattle.semantics.specs.Definitions.{Definition, Definitions, Shared, empty, has, same_attributes}
use Rattle.semantics.specs.Program.{Mode}
use Rattle.semantics.specs.Play.{End}
use Rattle.semantics.specs.Ends.{aborted}
use Rattle.semantics.specs.Eval.{Outcome, Evaluation, eval, same_symbols}
use Rattle.semantics.specs.Sections.{same_share}
use Rattle.journal.specs.Places.{when}
use Rattle.journal.specs.Closure.{bundle, install, closure, members, symbols_of, symbols_of_definition}
use Rattle.journal.specs.Core.{Setup, in_mode}

-- the definitions of a kernel that knows the bundle alone
abbrev pub bare : Setup → Definitions → Tree → Definitions
bare set d a = install set.names empty (bundle set.names d (symbols_of a))

abbrev pub by_itself : Setup → Definitions → Tree → Evaluation
by_itself set d a = eval (in_mode set Mode.Item 0) (bare set d a) a []

pub record IsQuiet (set : Setup) (d : Definitions) (a : Tree) : Type 0 where
  pub small : size a ≤ 4000000
  pub flat : depth a ≤ 512
  pub value : Tree
  pub gives : (by_itself set d a).outcome ≡ Outcome.Ended (End.Value value)
  pub keeps : (by_itself set d a).definitions ≡ bare set d a
  pub unused : (by_itself set d a).used ≡ false

abbrev pub Quiet : Setup → Definitions → List Tree → Type 0
Quiet set d [] = Unit {0}
Quiet set d (a ∷ as') = IsQuiet set d a × Quiet set d as'

-- the value of an evaluation that has one
abbrev pub value_of : End → Option Tree
value_of (End.Value v) = Some v
value_of (End.Stopped cause) = None
value_of (End.Throwing v) = None
value_of (End.Thrown v) = None
value_of End.Quit = None
value_of End.Closed = None
value_of End.Starved = None

abbrev pub outcome_value : Outcome → Option Tree
outcome_value (Outcome.Ended end) = value_of end
outcome_value (Outcome.Needs call) = None
outcome_value Outcome.Wrong = None

abbrev pub ended_value : Names → Outcome → Tree
ended_value names o = elim (outcome_value o) [ None ↦ aborted names | Some v ↦ v ]

abbrev pub alone : Setup → Definitions → List Tree → List Tree
alone set d [] = []
alone set d (a ∷ as') = ended_value set.names (by_itself set d a).outcome ∷ alone set d as'

-- ---- computed

abbrev pub same_own : Option Tree → Option Tree → Bool
same_own None None = true
same_own (Some v) (Some w) = same v w
same_own _ _ = false

abbrev pub same_rules : List Rule → List Rule → Bool
same_rules [] [] = true
same_rules (r ∷ rs) (q ∷ qs) = same r.left q.left && (same r.right q.right && same_rules rs qs)
same_rules _ _ = false

abbrev pub same_definition : Definition → Definition → Bool
same_definition a b = same_attributes a.attributes b.attributes && (same_own a.own b.own && (same_rules a.downs b.downs && same_rules a.ups b.ups))

abbrev pub same_entries : List (Sym × Definition) → List (Sym × Definition) → Bool
same_entries [] [] = true
same_entries (d ∷ ds) (e ∷ es) = same_symbol d.0 e.0 && (same_definition d.1 e.1 && same_entries ds es)
same_entries _ _ = false

abbrev pub same_shared : List Shared → List Shared → Bool
same_shared [] [] = true
same_shared (a ∷ as') (b ∷ bs) = same_symbol a.symbol b.symbol && (same_share a.kind b.kind && (same_attributes a.attributes b.attributes && same_shared as' bs))
same_shared _ _ = false

-- entry by entry, in their order
abbrev pub same_definitions : Definitions → Definitions → Bool
same_definitions c d = same_entries c.entries d.entries && (same_shared c.shared d.shared && (same_symbols c.named d.named && (c.module_number == d.module_number)))

abbrev pub within_limits : Tree → Bool
within_limits a = leb (size a) 4000000 && leb (depth a) 512

-- an evaluation that an application may have that is quiet; `kept` says that the definitions are as they have to be
abbrev pub is_calm : Tree → Evaluation → Bool → Bool
is_calm a e kept = within_limits a && (kept && not e.used)

abbrev pub quiet_value : Setup → Definitions → Tree → Option Tree
quiet_value set d a =
    let e = by_itself set d a in
    when (is_calm a e (same_definitions e.definitions (bare set d a))) (outcome_value e.outcome)

abbrev pub quiet_values : Setup → Definitions → List Tree → List (Option Tree)
quiet_values set d es = map (quiet_value set d) es

-- ---- quiet but for generated names

-- an evaluation that begins with no other names of the table puts in no other
abbrev pub rows_for_names : List Builtin
rows_for_names =
    Builtin.List ∷ Builtin.Sequence ∷ Builtin.Null ∷ Builtin.True ∷ Builtin.False ∷ Builtin.Failed ∷ Builtin.Pattern ∷ Builtin.Blank ∷ Builtin.BlankSequence ∷ Builtin.BlankNullSequence
    ∷ Builtin.PatternTest ∷ Builtin.Condition ∷ Builtin.Plus ∷ Builtin.Times ∷ Builtin.Power ∷ Builtin.Minus ∷ Builtin.Subtract ∷ Builtin.Divide ∷ Builtin.Quotient ∷ Builtin.Mod ∷ Builtin.EvenQ
    ∷ Builtin.OddQ ∷ Builtin.Equal ∷ Builtin.Unequal ∷ Builtin.Less ∷ Builtin.LessEqual ∷ Builtin.Greater ∷ Builtin.GreaterEqual ∷ Builtin.SameQ ∷ Builtin.UnsameQ ∷ Builtin.Not ∷ Builtin.And
    ∷ Builtin.Or ∷ Builtin.CompoundExpression ∷ Builtin.If ∷ Builtin.While ∷ Builtin.Do ∷ Builtin.Table ∷ Builtin.Sum ∷ Builtin.Module ∷ Builtin.Block ∷ Builtin.With ∷ Builtin.Function
    ∷ Builtin.Slot ∷ Builtin.Set ∷ Builtin.Increment ∷ Builtin.Decrement ∷ Builtin.AddTo ∷ Builtin.Length ∷ Builtin.First ∷ Builtin.Rest ∷ Builtin.Part ∷ Builtin.Append ∷ Builtin.Range
    ∷ Builtin.Map ∷ Builtin.Total ∷ []

abbrev pub is_for_names : Option Builtin → Bool
is_for_names None = true
is_for_names (Some row) = has row rows_for_names

abbrev pub all_for_names : Names → List Sym → Bool
all_for_names names [] = true
all_for_names names (s ∷ ss) = is_for_names (role_of names s) && all_for_names names ss

-- the symbols of all own values and rules
abbrev pub symbols_of_entries : List (Sym × Definition) → List Sym
symbols_of_entries [] = []
symbols_of_entries (e ∷ es) = symbols_of_definition e.1 ++ symbols_of_entries es

-- no number is the one that the next Module takes, or later
abbrev pub all_before : ℕ → List Sym → Bool
all_before m [] = true
all_before m (s ∷ ss) = ltb s.number m && all_before m ss

abbrev pub entries_before : ℕ → List (Sym × Definition) → List (Sym × Definition)
entries_before m [] = []
entries_before m (e ∷ es) = elim (ltb e.0.number m) [ true ↦ e ∷ entries_before m es | false ↦ entries_before m es ]

-- definitions without those of names that a Module took from the number m on, and with m as the next
abbrev pub as_before : ℕ → Definitions → Definitions
as_before m d = record d { entries = entries_before m d.entries; module_number = m }

-- so many applications, each of as many steps as the options allow, leave numbers over
abbrev pub most_names : ℕ
most_names = 900000000000000000

-- the value has no generated name; the application and its closure have none that a Module may still take
pub record IsQuietNamed (set : Setup) (d : Definitions) (a : Tree) : Type 0 where
  pub small : size a ≤ 4000000
  pub flat : depth a ≤ 512
  pub value : Tree
  pub gives : (by_itself set d a).outcome ≡ Outcome.Ended (End.Value value)
  pub keeps : as_before d.module_number (by_itself set d a).definitions ≡ as_before d.module_number (bare set d a)
  pub unused : (by_itself set d a).used ≡ false
  pub room : d.module_number ≤ most_names
  pub plain : all_before 1 (symbols_of value) ≡ true
  pub taken : all_before d.module_number (symbols_of a ++ members set.names (closure set.names d (symbols_of a))) ≡ true
  pub rows : all_for_names set.names (symbols_of a ++ symbols_of_entries (bare set d a).entries) ≡ true

abbrev pub QuietNamed : Setup → Definitions → List Tree → Type 0
QuietNamed set d [] = Unit {0}
QuietNamed set d (a ∷ as') = IsQuietNamed set d a × QuietNamed set d as'

-- what is asked of the application and of what it takes with it
abbrev pub may_name : Setup → Definitions → Tree → Bool
may_name set d a =
    leb d.module_number most_names
    && (all_before d.module_number (symbols_of a ++ members set.names (closure set.names d (symbols_of a)))
    && all_for_names set.names (symbols_of a ++ symbols_of_entries (bare set d a).entries))

abbrev pub if_plain : Option Tree → Option Tree
if_plain None = None
if_plain (Some v) = when (all_before 1 (symbols_of v)) (Some v)

abbrev pub quiet_named_value : Setup → Definitions → Tree → Option Tree
quiet_named_value set d a =
    let e = by_itself set d a in
    when (may_name set d a && is_calm a e (same_definitions (as_before d.module_number e.definitions) (as_before d.module_number (bare set d a)))) (if_plain (outcome_value e.outcome))
