-- A text is cut at each place into the longest text that is a token, is passed over or is faulty.
--     IsLongest, HasNone   a part at the front, and no longer front is one; no front is one
--     passes, fault_of     what is passed over; the fault of a part at a place
--     stopped              no tokens, and a fault
--     IsCut                the tokens of the text from a place on, and the first fault
use Rattle.std.specs.Prelude.{◌≡◌, ℕ, pred, ◌+◌, ◌≤◌, Bool, true, false, List, [], ◌∷◌, ◌++◌, length, Option, Some, None}
use Rattle.syntax.specs.Tokens.{Kind, LexFault, BadByte, WideNumber, OpenString, OpenComment, Lexed, and_token}
use Rattle.laws_tokens.specs.Texts.{Part, IsPart}
use Rattle.laws_tokens.specs.Texts as of

pub record IsLongest (text : List ℕ) (part : Part) (front rest : List ℕ) : Type 0 where
  pub whole : text ≡ front ++ rest
  pub is : IsPart part front
  pub longest : (other : Part) (t u : List ℕ) → text ≡ t ++ u → IsPart other t → length t ≤ length front

-- no front of the text is a part
abbrev pub HasNone : List ℕ → Type 0
HasNone text = (part : Part) (t u : List ℕ) → text ≡ t ++ u → ¬ IsPart part t

abbrev pub passes : Part → Bool
passes of.Space = true
passes of.Comment = true
passes _ = false

-- of a part of so many bytes at a place
abbrev pub fault_of : Part → ℕ → ℕ → Option LexFault
fault_of of.Wide at long = Some (WideNumber at)
fault_of of.BadSlot at long = Some (BadByte at)
fault_of of.OpenString at long = Some (OpenString at)
fault_of of.BadEscape at long = Some (BadByte (at + pred long))
fault_of of.OpenComment at long = Some (OpenComment at)
fault_of _ at long = None

abbrev pub stopped : LexFault → Lexed
stopped fault = record { tokens = []; fault = Some fault }

pub data IsCut : ℕ → List ℕ → Lexed → Type 0 where
  nothing : (at : ℕ) → IsCut at [] (record { tokens = []; fault = None })
  token : (at : ℕ) {text : List ℕ} {l : Lexed} (kind : Kind) (front rest : List ℕ) →
      IsLongest text (of.Whole kind) front rest → IsCut (at + length front) rest l →
      IsCut at text (and_token (record { kind = kind; from = at; to = at + length front }) l)
  passed : (at : ℕ) {text : List ℕ} {l : Lexed} (part : Part) (front rest : List ℕ) →
      IsLongest text part front rest → passes part ≡ true → IsCut (at + length front) rest l → IsCut at text l
  faulty : (at : ℕ) {text : List ℕ} (part : Part) (front rest : List ℕ) (fault : LexFault) →
      IsLongest text part front rest → fault_of part at (length front) ≡ Some fault → IsCut at text (stopped fault)
  strange : (at : ℕ) (c : ℕ) (cs : List ℕ) → HasNone (c ∷ cs) → IsCut at (c ∷ cs) (stopped (BadByte at))
