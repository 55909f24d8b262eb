-- The place of a name among names.
--     IsPlace       the first place where the name stands; None where it stands nowhere
use Rattle.std.specs.Prelude.{◌≡◌, ◌≢◌, ◌<◌, ℕ, List, length, get_or, [], Option, Some, None}

abbrev pub IsPlace : List ℕ → List (List ℕ) → Option ℕ → Type 0
IsPlace name names None = (i : ℕ) → i < length names → get_or names i [] ≢ name
IsPlace name names (Some at) =
    (at < length names) × (get_or names at [] ≡ name) × ((i : ℕ) → i < at → get_or names i [] ≢ name)
