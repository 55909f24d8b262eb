-- The cells of a script: the longest runs of lines that are not blank, each as one text with a line feed between its lines.
--     lines      the texts between line feeds
--     is_blank      whether a line has only spaces, tabs and carriage returns
--     runs, all_runs      the runs of lines that are not blank
--     cells      the texts of the runs
use Rattle.std.specs.Prelude.{ℕ, Bool, true, false, ◌==◌, map, List, [], ◌∷◌}
use Rattle.script_text.specs.Bytes.{is_space, all, joined}

abbrev pub Line : Type 0
Line = List ℕ

-- a byte more at the front of the first line
abbrev pub in_first : ℕ → List Line → List Line
in_first c [] = (c ∷ []) ∷ []
in_first c (l ∷ ls) = (c ∷ l) ∷ ls

-- the texts between line feeds
abbrev pub lines : List ℕ → List Line
lines [] = [] ∷ []
lines (c ∷ cs) = elim (c == 10) [ true ↦ [] ∷ lines cs | false ↦ in_first c (lines cs) ]

abbrev pub is_blank : Line → Bool
is_blank l = all is_space l

-- the run that begins at once, which may be empty, and the runs after it
pub record Runs : Type 0 where
  pub first : List Line
  pub others : List (List Line)

-- the run that begins at once is one of the runs unless it is empty
abbrev pub with_first : List Line → List (List Line) → List (List Line)
with_first [] rs = rs
with_first (l ∷ ls) rs = (l ∷ ls) ∷ rs

abbrev pub and_line : Line → Bool → Runs → Runs
and_line l true r = record { first = []; others = with_first r.first r.others }
and_line l false r = record { first = l ∷ r.first; others = r.others }

abbrev pub runs : List Line → Runs
runs [] = record { first = []; others = [] }
runs (l ∷ ls) = and_line l (is_blank l) (runs ls)

abbrev pub all_runs : Runs → List (List Line)
all_runs r = with_first r.first r.others

abbrev pub cell_text : List Line → List ℕ
cell_text ls = joined (10 ∷ []) ls

abbrev pub cells : List ℕ → List (List ℕ)
cells text = map cell_text (all_runs (runs (lines text)))
