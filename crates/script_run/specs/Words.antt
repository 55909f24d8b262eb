-- The words of the command line.
--     step_limit           the number of steps that a text gives, if it gives one
--     steps_in             the number of steps that each cell may take, where the words are read
use Rattle.std.specs.Prelude.{ℕ, Bool, true, false, ◌&&◌, leb, List, [], ◌∷◌, length, Option, Some, None, codes}
use Rattle.std.specs.Str.{bytes_eq}
use Rattle.script_text.specs.Bytes.{is_digit, all, number_after}

-- one to nine digits that write a number from 1 to 100,000,000
abbrev pub is_step_limit : List ℕ → Bool
is_step_limit text = leb (length text) 9 && (all is_digit text && (leb 1 (number_after 0 text) && leb (number_after 0 text) 100000000))

abbrev pub step_limit : List ℕ → Option ℕ
step_limit text = elim (is_step_limit text) [ true ↦ Some (number_after 0 text) | false ↦ None ]

-- a run without kernels
abbrev pub are_alone : List ℕ → List ℕ → Bool
are_alone name count = bytes_eq name (codes "--kernels") && bytes_eq count (codes "0")

-- 1,000,000 where the words do not say how many
abbrev pub steps_in : List (List ℕ) → Option ℕ
steps_in (name ∷ count ∷ []) = elim (are_alone name count) [ true ↦ Some 1000000 | false ↦ None ]
steps_in (name ∷ count ∷ steps ∷ text ∷ []) = elim (are_alone name count && bytes_eq steps (codes "--steps")) [ true ↦ step_limit text | false ↦ None ]
steps_in _ = None
