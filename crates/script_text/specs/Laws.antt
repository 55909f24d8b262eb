-- Laws of full forms and of their reader, each proved by the function of src/ that cites it.
use Rattle.std.specs.Prelude.{◌≡◌, ℕ, ◌+◌, ◌<◌, ◌≤◌, List, take, [], ◌++◌, get_or, length, Some, None}
use Rattle.expr_tree.specs.Tree.{Tree, Trees, integer, string, symbol, normal, nil, cons, size, depth}
use Rattle.script_text.specs.Spelling.{Spelling, by_texts, place_in, spelled, number_suffix}
use Rattle.script_text.specs.Full.{full}
use Rattle.script_text.specs.FullForm.{BeginsFullForm, IsFirstBad, IsFullForm, IsFullFormOf, IsWritten}
use Rattle.script_text.specs.Reader.{State, read, run, first_state}

-- no text stands twice in the list
abbrev pub AreDistinct : List (List ℕ) → Type 0
AreDistinct texts = (b c : ℕ) → b < length texts → c < length texts → get_or texts b [] ≡ get_or texts c [] → b ≡ c

-- the bases of all symbols are below the number
abbrev mutual
  pub IsKept : ℕ → Tree → Type 0
  IsKept count (integer n) = Unit {0}
  IsKept count (string t) = Unit {0}
  IsKept count (symbol s) = s.base < count
  IsKept count (normal h es) = IsKept count h × AreKept count es

  pub AreKept : ℕ → Trees → Type 0
  AreKept count nil = Unit {0}
  AreKept count (cons e es) = IsKept count e × AreKept count es

-- A text is the full form of one expression at most.
abbrev pub OneExpression : Type 0
OneExpression =
    (texts : List (List ℕ)) → AreDistinct texts → (e f : Tree) → IsKept (length texts) e → IsKept (length texts) f
    → (t : List ℕ) → IsFullFormOf (by_texts texts) e t → IsFullFormOf (by_texts texts) f t → e ≡ f

-- What is a full form is read as its expression.
abbrev pub ReadAgain : Type 0
ReadAgain =
    (texts : List (List ℕ)) → AreDistinct texts → (e : Tree) → IsKept (length texts) e
    → (t : List ℕ) → IsFullFormOf (by_texts texts) e t → read (place_in texts) t ≡ Some e

-- Where the reader stops, no full form goes on, whatever the names are.
abbrev pub StopsRightly : Type 0
StopsRightly = (find : List ℕ → ℕ) (t rest : List ℕ) → run find t first_state ≡ None → ¬ IsFullForm (t ++ rest)

-- Every full form is read to its end, as some expression, whatever the names are.
abbrev pub Accepts : Type 0
Accepts = (find : List ℕ → ℕ) (t : List ℕ) → IsFullForm t → (e : Tree) × (read find t ≡ Some e)

-- Each text is the text of the base and number that it is read as.
abbrev pub SpelledBack : Type 0
SpelledBack = (t : List ℕ) → (spelled t).base ++ number_suffix (spelled t).number ≡ t

-- Where the reader goes on, some full form does; `spelling` gives back each text that `find` has a base for.
abbrev pub GoesOnRightly : Type 0
GoesOnRightly =
    (find : List ℕ → ℕ) (spelling : Spelling) → ((w : List ℕ) → spelling (find w) ≡ w)
    → (t : List ℕ) (s : State) → run find t first_state ≡ Some s → BeginsFullForm t

-- Texts can be numbered, so the law above says something.
abbrev pub TextsCanBeNumbered : Type 0
TextsCanBeNumbered = (find : List ℕ → ℕ) × (spelling : Spelling) × ((w : List ℕ) → spelling (find w) ≡ w)

-- the reader goes over the first k bytes of the text, and then the text ends or it stops
pub record GoesOver (find : List ℕ → ℕ) (t : List ℕ) (k : ℕ) : Type 0 where
  pub within : k ≤ length t
  pub state : State
  pub goes_on : run find (take k t) first_state ≡ Some state
  pub stops : k < length t → run find (take (k + 1) t) first_state ≡ None

-- What the reader refuses is refused whatever the names are, so `find` may be any.
abbrev pub StopsAlike : Type 0
StopsAlike = (find other : List ℕ → ℕ) (t : List ℕ) → (run find t first_state ≡ None → run other t first_state ≡ None) × (read find t ≡ None → read other t ≡ None)

-- In a text that is not read, the byte at which the reader stops is the first bad one.
abbrev pub StopsAtFirstBad : Type 0
StopsAtFirstBad = (find : List ℕ → ℕ) (t : List ℕ) (k : ℕ) → GoesOver find t k → read find t ≡ None → IsFirstBad t k

-- An expression has no more atoms and no more levels than its full form has bytes.
abbrev pub FullFormIsLong : Type 0
FullFormIsLong = (spelling : Spelling) (e : Tree) → IsWritten spelling e → (size e ≤ length (full spelling e)) × (depth e ≤ length (full spelling e))
