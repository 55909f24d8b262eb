-- What holds of a desk between any two steps.
-- Word 0 is the next ticket and word 1 the ticket that is served, both modulo 2^64; word 2 is the length of the current list. The one slot has the book.
-- Tickets: who waits and who has the turn. Numbers: each pass number stands in one view. Knows: what each view may rely on. Placed: where the book is. Invariant: all of it.
-- A view is what a seat of the table knows; a spent view has no numbers and has seen nothing. In State of atomic_table, words are those of the table, homes its slots (none where a seat has the slot), and views those of all seats.
use Rattle.std.specs.Prelude.{◌≡◌, ℕ, ◌+◌, ◌%◌, ◌^◌, ◌<◌, ◌≤◌, ◌⊎◌, List, [], ◌∷◌, length, eqb, cond, Option, Some, None}
use mathlib.Core.Option.{Option as Maybe, some, none}
use lib.ListN.{get_elem?}
use Rattle.atomic_table.specs.Table.{State}
use Rattle.turn_desk.specs.declared.view.View.{View}
use Rattle.turn_desk.specs.declared.view.Stage.{Stage}
use Rattle.turn_desk.specs.declared.view.Stage.TheVariants.{Spent, Idle, Waiting, Served, Opening, Holding, Joining}
use Rattle.turn_desk.specs.Lists.{total, IsPrefix, entries_under, times, HasExactly}

-- 1 where the ticket is x, else 0
abbrev pub is_ticket : ℕ → Maybe ℕ → ℕ
is_ticket x none = 0
is_ticket x (some t) = cond (eqb t x) 1 0

-- 1 where there is a ticket, else 0
abbrev pub is_some : Maybe ℕ → ℕ
is_some none = 0
is_some (some t) = 1

module _ {E : Type 0} where
  -- the ticket that a view at this stage holds
  abbrev pub ticket_of : Stage E → Maybe ℕ
  ticket_of Spent = none
  ticket_of Idle = none
  ticket_of (Waiting t) = some t
  ticket_of (Served t) = some t
  ticket_of Opening = some 0
  ticket_of (Holding t) = some t
  ticket_of (Joining told) = none

  abbrev pub holds_ticket : ℕ → View E → ℕ
  holds_ticket x v = is_ticket x (ticket_of v.stage)

  abbrev pub has_ticket : View E → ℕ
  has_ticket v = is_some (ticket_of v.stage)

  -- where it has the turn, it holds the ticket that is served
  abbrev pub HasTurn : ℕ → Stage E → Type 0
  HasTurn served Spent = Unit {0}
  HasTurn served Idle = Unit {0}
  HasTurn served (Waiting t) = Unit {0}
  HasTurn served (Served t) = t ≡ served
  HasTurn served Opening = 0 ≡ served
  HasTurn served (Holding t) = t ≡ served
  HasTurn served (Joining told) = Unit {0}

  abbrev pub HasSlot : Stage E → Type 0
  HasSlot Spent = ⊥
  HasSlot Idle = ⊥
  HasSlot (Waiting t) = ⊥
  HasSlot (Served t) = ⊥
  HasSlot Opening = Unit {0}
  HasSlot (Holding t) = Unit {0}
  HasSlot (Joining told) = ⊥

  -- how often the number k stands in the view
  abbrev pub times_in : ℕ → View E → ℕ
  times_in k v = times k v.by_number

-- the tickets held are the numbers from `served` up to `drawn`, each once
pub record Tickets {E : Type 0} (drawn served : ℕ) (views : List (View E)) : Type 0 where
  pub each : (x : ℕ) → served ≤ x → x < drawn → total (holds_ticket x) views ≡ 1
  pub others : (x : ℕ) → (x < served) ⊎ (drawn ≤ x) → total (holds_ticket x) views ≡ 0
  pub count : served + total has_ticket views ≡ drawn
  pub turns : (j : ℕ) (v : View E) → get_elem? views j ≡ some v → HasTurn served v.stage

-- each number made stands in exactly one view, and the view with the number 0 of its own counts them
pub record Numbers {E : Type 0} (made : ℕ) (views : List (View E)) : Type 0 where
  pub each : (k : ℕ) → k < made → total (times_in k) views ≡ 1
  pub others : (k : ℕ) → made ≤ k → total (times_in k) views ≡ 0
  pub root : (j : ℕ) (v : View E) → get_elem? views j ≡ some v → (own : List E) (more : List (ℕ × List E)) → v.by_number ≡ (0, own) ∷ more → v.made ≡ made
  pub count : length views ≤ made
  pub bound : made < 2 ^ 32

module _ {B E : Type 0} (home : Maybe (Option B)) (current : List (ℕ × E)) where
  -- where a view has the slot, the slot is out (at the opening still empty) and what it has seen is the current list; where it joins another, what that one had seen begins the current list
  abbrev pub FitsStage : List (ℕ × E) → Stage E → Type 0
  FitsStage seen Spent = Unit {0}
  FitsStage seen Idle = Unit {0}
  FitsStage seen (Waiting t) = Unit {0}
  FitsStage seen (Served t) = Unit {0}
  FitsStage seen Opening = (home ≡ some None) × (seen ≡ current)
  FitsStage seen (Holding t) = (home ≡ none) × (seen ≡ current)
  FitsStage seen (Joining told) = IsPrefix told current

  -- what a view has seen begins the current list, which has under the view's numbers exactly the entries that the view keeps
  pub record Knows (v : View E) : Type 0 where
    pub seen : IsPrefix v.seen current
    pub own : HasExactly current v.by_number
    pub fits : FitsStage v.seen v.stage
    pub numbered : HasSlot v.stage → (k : ℕ) × (0 < times k v.by_number)

-- the book is in the slot and has the current list, or one view has the slot
abbrev pub Placed : {B E : Type 0} → (B → List (ℕ × E)) → Maybe (Option B) → List (ℕ × E) → List (View E) → Type 0
Placed {B} {E} entries home current views =
    ((b : B) × (home ≡ some (Some b)) × (entries b ≡ current)) ⊎ ((j : ℕ) × (v : View E) × (get_elem? views j ≡ some v) × HasSlot v.stage)

pub record Invariant {B E : Type 0} (entries : B → List (ℕ × E)) (s : State (Option B) (View E)) : Type 0 where
  -- tickets drawn and served since the opening, not modulo anything
  pub drawn : ℕ
  pub served : ℕ
  -- how many passes were made
  pub made : ℕ
  pub current : List (ℕ × E)
  -- what the slot has; none where a view has the slot
  pub home : Maybe (Option B)
  pub words : s.words ≡ (drawn % 2 ^ 64) ∷ (served % 2 ^ 64) ∷ length current ∷ []
  pub homes : s.homes ≡ home ∷ []
  pub tickets : Tickets drawn served s.views
  pub numbers : Numbers made s.views
  pub placed : Placed entries home current s.views
  pub knows : (j : ℕ) (v : View E) → get_elem? s.views j ≡ some v → Knows home current v
  -- numbers not yet made have no entries
  pub unmade : (k : ℕ) → made ≤ k → entries_under k current ≡ []
