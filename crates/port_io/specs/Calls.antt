-- Calls that are to fail, by their numbers from 1: count_up_to, fails_next
use Rattle.std.specs.Prelude.{Bool, ℕ, ◌+◌, ◌-◌, ◌^◌, List, [], ◌∷◌, if◌then◌else◌, nat_le, nat_lt, ◌==◌, ◌&&◌}
use Rattle.std.specs.List.{list_any}

-- how many of the numbers are at most n
abbrev pub count_up_to : ℕ → List ℕ → ℕ
count_up_to n [] = 0
count_up_to n (call ∷ calls) = (if nat_le call n then 1 else 0) + count_up_to n calls

-- the call after this many calls is to fail; the count of calls stops at its greatest value, and then none fails
abbrev pub fails_next : ℕ → List ℕ → Bool
fails_next calls fails = nat_lt calls (2 ^ 64 - 1) && list_any (λ n. n == calls + 1) fails
