-- The names that reading a cell asks for.
--     AreKeptNames         the table has the base of each name
use Rattle.std.specs.Prelude.{ℕ, ◌<◌, List, [], ◌∷◌, length}
use Rattle.script_text.specs.Spelling.{spelled, place_in}

abbrev pub AreKeptNames : List (List ℕ) → List (List ℕ) → Type 0
AreKeptNames texts [] = Unit {0}
AreKeptNames texts (w ∷ ws) = (place_in texts (spelled w).base < length texts) × AreKeptNames texts ws
