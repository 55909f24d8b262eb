-- The best of some integers.
--     better                whether the first of two integers is kept, for an extreme
--     kept                  the best of some integers and of the one before them, if there is one
use Rattle.std.specs.Prelude.{ℤ, int_lt, Bool, List, [], ◌∷◌, Option, Some, None}
use Rattle.semantics.specs.Numbers.{best}
use Rattle.rows_numbers.specs.declared.extremes.Extreme.{Extreme}
use Rattle.rows_numbers.specs.declared.extremes.Extreme.TheVariants.{Greatest, Least}

abbrev pub better : Extreme → ℤ → ℤ → Bool
better Greatest = λ m n. int_lt n m
better Least = int_lt

abbrev pub kept : (ℤ → ℤ → Bool) → Option ℤ → List ℤ → Option ℤ
kept test None [] = None
kept test None (n ∷ ns) = Some (best test n ns)
kept test (Some m) ns = Some (best test m ns)
