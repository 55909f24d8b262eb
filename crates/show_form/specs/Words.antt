-- The names of a text, a byte at a time.
use Rattle.std.specs.Prelude.{ℕ, Bool, true, false, not, ◌==◌, ◌&&◌, ◌||◌, cond, List, [], ◌∷◌, ◌++◌}
use Rattle.std.specs.List.{filter}
use Rattle.script_text.specs.Bytes.{is_name}
use Rattle.script_text.specs.FullNames.{words}

-- a byte outside strings, and a quote for one within
abbrev pub blanked : Bool → ℕ → ℕ
blanked quoted c = cond quoted 34 c

-- whether a string is open behind the byte, and whether it is a backslash that stands for no byte itself
abbrev pub quoted_after : Bool → Bool → ℕ → Bool
quoted_after quoted escaped c = cond quoted (not (c == 34) || escaped) (c == 34)

abbrev pub escaped_after : Bool → Bool → ℕ → Bool
escaped_after quoted escaped c = quoted && (not escaped && (c == 92))

-- the word, where it is a name
abbrev pub named : List ℕ → List (List ℕ)
named w = cond (is_name w) (w ∷ []) []

abbrev pub with_front : List ℕ → List (List ℕ) → List (List ℕ)
with_front w [] = w ∷ []
with_front w (u ∷ us) = (w ++ u) ∷ us

-- the names of a text that goes on with a word, strings blanked
abbrev pub names_behind : List ℕ → List ℕ → List (List ℕ)
names_behind w rest = filter is_name (with_front w (words rest))
