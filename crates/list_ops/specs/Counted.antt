-- How many elements a number asks for.
--     count_of              none where it is below 0, and no more than one more than an expression may have
use Rattle.std.specs.Prelude.{ℕ, ℤ, pos, negsuc, min}

abbrev pub count_of : ℤ → ℕ
count_of (pos n) = min n 4000001
count_of (negsuc n) = 0
