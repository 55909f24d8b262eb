-- What reading a full form promises.
--     AreKeptNames         the table has the base of each name
--     IsFault              why the text is not read
use Rattle.std.specs.Prelude.{◌≡◌, ℕ, ◌+◌, ◌<◌, ◌≤◌, List, [], ◌∷◌, length, take, Option, Some, None}
use Rattle.expr_tree.specs.Tree.{Tree, size, depth}
use Rattle.script_text.specs.FullForm.{IsFullForm, IsFullFormOf, IsFirstBad}
use Rattle.script_text.specs.Spelling.{spelled, by_texts, place_in}
use Rattle.show_form.specs.declared.fault.FullFault.{FullFault}
use Rattle.show_form.specs.declared.fault.FullFault.TheVariants.{At, TooLarge, TooDeep, NoMemory}
use Rattle.show_form.specs.Steps.{State, run, whole, first_state}

abbrev pub AreKeptNames : List (List ℕ) → List (List ℕ) → Type 0
AreKeptNames texts [] = Unit {0}
AreKeptNames texts (w ∷ ws) = (place_in texts (spelled w).base < length texts) × AreKeptNames texts ws

abbrev pub IsFault : List (List ℕ) → List ℕ → FullFault → Type 0
IsFault texts t (At place) = (IsFullForm t → ⊥) × IsFirstBad t place
IsFault texts t TooLarge = (e : Tree) × IsFullFormOf (by_texts texts) e t × (4000000 < size e)
IsFault texts t TooDeep = (e : Tree) × IsFullFormOf (by_texts texts) e t × (size e ≤ 4000000) × (512 < depth e)
IsFault texts t NoMemory = Unit {0}

-- the state behind a text, and None where its first byte is bad
abbrev pub IsAfter : (List ℕ → ℕ) → List ℕ → State → Option State → Type 0
IsAfter find cs s (Some r) = run find cs s ≡ Some r
IsAfter find cs s None = run find (take 1 cs) s ≡ None

-- the reader stops at the place
pub record IsStop (find : List ℕ → ℕ) (t : List ℕ) (place : ℕ) : Type 0 where
  pub state : State
  pub within : place ≤ length t
  pub good : run find (take place t) first_state ≡ Some state
  pub bad : place < length t → run find (take (place + 1) t) first_state ≡ None
  pub unfinished : place ≡ length t → whole find state ≡ None
