-- Many passes of one desk.
-- after_splits, new_passes: what splitting gives. JoinsAll: what joining gives. AllOfDesk, Numbered, HasExactlyAll: of a list of passes.
use Rattle.std.specs.Prelude.{◌≡◌, ℕ, zero, suc, ◌+◌, List, [], ◌∷◌, ◌++◌}
use Rattle.turn_desk.specs.Lists.{IsPrefix, HasExactly}
use Rattle.turn_desk.specs.Passes.{TableId, PassView, by_number, new_pass}

module _ {E : Type 0} where
  -- pass 0 once it has made n more
  abbrev pub after_splits : PassView E → ℕ → PassView E
  after_splits p n = record { desk = p.desk; number = p.number; made = p.made + n; seen = p.seen; own = p.own; joined = p.joined }

  -- the n passes that it makes
  abbrev pub new_passes : PassView E → ℕ → List (PassView E)
  new_passes p zero = []
  new_passes p (suc n) = new_passes p n ++ new_pass (after_splits p n) ∷ []

  -- the entries of all of them, by number
  abbrev pub all_by_number : List (PassView E) → List (ℕ × List E)
  all_by_number [] = []
  all_by_number (p ∷ ps) = by_number p ++ all_by_number ps

  -- each is a pass of this desk
  abbrev pub AllOfDesk : TableId → List (PassView E) → Type 0
  AllOfDesk desk [] = Unit {0}
  AllOfDesk desk (p ∷ ps) = (p.desk ≡ desk) × AllOfDesk desk ps

  -- a pass with others joined into it
  pub record JoinsAll (p : PassView E) (ps : List (PassView E)) (q : PassView E) : Type 0 where
    pub desk : q.desk ≡ p.desk
    pub number : q.number ≡ p.number
    pub made : q.made ≡ p.made
    pub all_by_number_is : by_number q ≡ by_number p ++ all_by_number ps
    pub seen : IsPrefix p.seen q.seen

module _ {E : Type 0} where
  -- their numbers are n, n + 1 and so on
  abbrev pub Numbered : ℕ → List (PassView E) → Type 0
  Numbered n [] = Unit {0}
  Numbered n (p ∷ ps) = (p.number ≡ n) × Numbered (suc n) ps

  -- under each number of each pass the list has exactly the entries that the pass keeps for it
  abbrev pub HasExactlyAll : List (ℕ × E) → List (PassView E) → Type 0
  HasExactlyAll list [] = Unit {0}
  HasExactlyAll list (p ∷ ps) = HasExactly list (by_number p) × HasExactlyAll list ps
