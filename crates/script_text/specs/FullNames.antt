-- The names that stand in a text outside its strings.
--     outside              the text with a quote in the place of each byte of a string
--     words                what stands between the bytes that are in no name
--     names_in             the words that are names, in order and as often as they stand there
use Rattle.std.specs.Prelude.{ℕ, Bool, true, false, not, ◌==◌, List, [], ◌∷◌}
use Rattle.std.specs.List.{filter}
use Rattle.script_text.specs.Bytes.{in_name, is_name}
use Rattle.script_text.specs.Cells.{in_first}

-- whether a string is open, and whether a backslash stands before
abbrev pub outside : Bool → Bool → List ℕ → List ℕ
outside quoted escaped [] = []
outside false escaped (c ∷ cs) = c ∷ outside (c == 34) false cs
outside true true (c ∷ cs) = 34 ∷ outside true false cs
outside true false (c ∷ cs) = 34 ∷ outside (not (c == 34)) (c == 92) cs

abbrev pub words : List ℕ → List (List ℕ)
words [] = [] ∷ []
words (c ∷ cs) = elim (in_name c) [ true ↦ in_first c (words cs) | false ↦ [] ∷ words cs ]

abbrev pub names_in : List ℕ → List (List ℕ)
names_in t = filter is_name (words (outside false false t))
