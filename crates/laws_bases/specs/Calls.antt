-- The bases of symbols along the calls of an evaluation: what it sends and leaves has no other bases than what it had and what was replied.
--     IsPrintOf            a text is what prints of expressions whose bases are below a number
--     IsKeptCall           what is sent: an access, a form, a text, or locks
--     IsKeptReply          what is replied
--     IsKeptEnd            what an evaluation ends with
--     Keeps                a play that sends, leaves and ends with kept symbols alone, where what is replied is kept
--     AreKeptEvents        events that reply so
--     KeptAlong            an evaluation along them
--     PlaysKeep, EvaluationsKeep    each evaluation
use Rattle.std.specs.Prelude.{◌≡◌, ℕ, ◌<◌, List, [], ◌∷◌}
use Rattle.expr_tree.specs.Tree.{Tree}
use Rattle.script_text.specs.Laws.{IsKept}
use Rattle.semantics.specs.declared.builtin.Builtin.{Builtin}
use Rattle.semantics.specs.Definitions.{Definitions}
use Rattle.semantics.specs.Program.{Request, Access, Count, Print, Outside, Call, Sends, Enter, Leave}
use Rattle.semantics.specs.Sections.{printed}
use Rattle.semantics.specs.Play.{Setting, State, End, Value, Stopped, Throwing, Thrown, Quit, Closed, Starved, Reply, Replied, Halted, Shut, Lacking, Play, Over, Calls, whole}
use Rattle.semantics.specs.Eval.{Event, Outcome, Ended, Needs, Wrong, Evaluation, eval}
use Rattle.laws_bases.specs.Kept.{AreKeptSymbols, AreKeptIn}

module _ (count : ℕ) where
  abbrev pub AreKeptValues : List Tree → Type 0
  AreKeptValues [] = Unit {0}
  AreKeptValues (e ∷ es) = IsKept count e × AreKeptValues es

  pub record IsPrintOf (shown : Tree → List ℕ) (text : List ℕ) : Type 0 where
    pub values : List Tree
    pub kept : AreKeptValues values
    pub prints : text ≡ printed shown values

  abbrev pub IsKeptRequest : (Tree → List ℕ) → Request → Type 0
  IsKeptRequest shown (Access e) = IsKept count e
  IsKeptRequest shown Count = Unit {0}
  IsKeptRequest shown (Print text) = IsPrintOf shown text
  IsKeptRequest shown (Outside e) = IsKept count e

  abbrev pub IsKeptCall : (Tree → List ℕ) → Call → Type 0
  IsKeptCall shown (Sends c) = IsKeptRequest shown c
  IsKeptCall shown (Enter locks) = AreKeptSymbols count locks
  IsKeptCall shown Leave = Unit {0}

  abbrev pub IsKeptReply : Reply → Type 0
  IsKeptReply (Replied v) = IsKept count v
  IsKeptReply (Halted cause) = Unit {0}
  IsKeptReply Shut = Unit {0}
  IsKeptReply Lacking = Unit {0}

  abbrev pub IsKeptEnd : End → Type 0
  IsKeptEnd (Value v) = IsKept count v
  IsKeptEnd (Stopped cause) = Unit {0}
  IsKeptEnd (Throwing v) = IsKept count v
  IsKeptEnd (Thrown v) = IsKept count v
  IsKeptEnd Quit = Unit {0}
  IsKeptEnd Closed = Unit {0}
  IsKeptEnd Starved = Unit {0}

  pub data Keeps (shown : Tree → List ℕ) : Play → Type 0 where
    ended : {o : End} {s : State} → IsKeptEnd o → AreKeptIn count s.definitions → Keeps shown (Over o s)
    called : {c : Call} {s : State} {k : Reply → Definitions → Play} → IsKeptCall shown c → AreKeptIn count s.definitions
        → ((r : Reply) (d : Definitions) → IsKeptReply r → AreKeptIn count d → Keeps shown (k r d)) → Keeps shown (Calls c s k)

  -- the replies, and the definitions after them
  abbrev pub AreKeptEvents : List Event → Type 0
  AreKeptEvents [] = Unit {0}
  AreKeptEvents (a ∷ events) = IsKeptReply a.reply × AreKeptIn count a.after × AreKeptEvents events

  -- the call at which a list is used up too; so each call that is made, as that at which the list before it is
  abbrev pub IsKeptLast : (Tree → List ℕ) → Outcome → Type 0
  IsKeptLast shown (Ended o) = IsKeptEnd o
  IsKeptLast shown (Needs c) = IsKeptCall shown c
  IsKeptLast shown Wrong = Unit {0}

  pub record KeptAlong (shown : Tree → List ℕ) (v : Evaluation) : Type 0 where
    pub last : IsKeptLast shown v.outcome
    pub definitions : AreKeptIn count v.definitions

-- where the rows of the table have bases below the number too
abbrev pub PlaysKeep : Type 0
PlaysKeep =
    (set : Setting) (count : ℕ) → ((row : Builtin) → set.names.place row < count)
    → (d : Definitions) (e : Tree) → AreKeptIn count d → IsKept count e → Keeps count set.shown (whole set d e)

abbrev pub EvaluationsKeep : Type 0
EvaluationsKeep =
    (set : Setting) (count : ℕ) → ((row : Builtin) → set.names.place row < count)
    → (d : Definitions) (e : Tree) (events : List Event) → AreKeptIn count d → IsKept count e → AreKeptEvents count events → KeptAlong count set.shown (eval set d e events)
