-- Bytes that are read piece by piece, and calls that fail
use Rattle.std.specs.Prelude.{◌≡◌, ℕ, ◌+◌, ◌-◌, ◌≤◌, ◌<◌, ◌^◌, min, List, [], ◌∷◌, ◌++◌, length, take, drop, true, ◌==◌, nat_lt, None, Some, refl}
use Rattle.std.specs.declared.option.Option.{Option}
use Rattle.std.specs.List.{list_any}
use Rattle.std.specs.Io.KnownBytes.{Consumes, Keeps}
use Rattle.std.proofs.Common.{arith, ap, sym, ◌∙◌, append_assoc}
use Rattle.std.proofs.lemmas.Bool.{and_parts}
use Rattle.std.proofs.lemmas.Bool.Decides.{nat_tests}
use Rattle.std.proofs.lemmas.List.{drop-drop, take-append-drop, take_rest, take_at, length-take-le}
use Rattle.port_io.specs.Calls.{count_up_to, fails_next}
use Rattle.port_io.specs.Counts.{Rose}

-- the piece that was copied, and what is left after it
pub piece_read : (xs ys zs : List ℕ) (p n : ℕ) → ys ≡ take n (take (length xs - p) (drop p xs)) → n ≤ length (take (length xs - p) (drop p xs))
    → drop p xs ≡ take n (ys ++ zs) ++ drop (p + n) xs
piece_read xs ys zs p n is fits =
    let long : length ys ≡ n = ap length is ∙ length-take-le n _ fits in
    let piece : ys ≡ take n (drop p xs) = is ∙ ap (λ l. take n l) (take_rest xs p) in
    rw (take_at ys zs n long, piece, ← drop-drop n p xs) (sym (take-append-drop n (drop p xs)))

-- more numbers are at most n + 1
pub count_grows : (n : ℕ) (calls : List ℕ) → count_up_to n calls ≤ count_up_to (n + 1) calls
count_grows n [] = omega arith
count_grows n (call ∷ calls) = let rest = count_grows n calls in grind (arith, nat_tests)

-- and one more where n + 1 is among them
pub count_rises : (n : ℕ) (calls : List ℕ) → list_any (λ k. k == n + 1) calls ≡ true → count_up_to n calls + 1 ≤ count_up_to (n + 1) calls
count_rises n [] found = cc
count_rises n (call ∷ calls) found = let rest = count_grows n calls in let more = count_rises n calls in grind (arith, nat_tests)

-- nothing was read
pub consumes-nothing : (left : Option (List ℕ)) → Consumes left left []
consumes-nothing None = tt
consumes-nothing (Some xs) = refl

-- a second piece was read
pub consumes-more : (a b c : Option (List ℕ)) (xs ys : List ℕ) → Consumes a b xs → Consumes b c ys → Consumes a c (xs ++ ys)
consumes-more None b c xs ys first second = tt
consumes-more (Some us) None c xs ys first second = absurd first
consumes-more (Some us) (Some bs) None xs ys first second = absurd second
consumes-more (Some us) (Some bs) (Some cs) xs ys first second = first ∙ (ap (λ r. xs ++ r) second ∙ sym (append_assoc xs ys cs))

-- a read failed
pub consumes-kept : (a b c : Option (List ℕ)) (xs : List ℕ) → Consumes a b xs → Keeps b c → Consumes a c xs
consumes-kept None b c xs first kept = tt
consumes-kept (Some us) None c xs first kept = absurd first
consumes-kept (Some us) (Some bs) None xs first kept = absurd kept
consumes-kept (Some us) (Some bs) (Some cs) xs first kept = first ∙ ap (λ r. xs ++ r) (sym kept)

-- a call is counted
pub count_kept : (n : ℕ) (calls : List ℕ) → n ≤ 2 ^ 64 - 1 → count_up_to n calls ≤ count_up_to (min (n + 1) (2 ^ 64 - 1)) calls
count_kept n [] fits = omega arith
count_kept n (call ∷ calls) fits = let rest = count_kept n calls fits in grind (arith, nat_tests)

-- and a failure rises the count
pub count_rose : (n : ℕ) (calls : List ℕ) → fails_next n calls ≡ true → Rose (count_up_to n calls) (count_up_to (min (n + 1) (2 ^ 64 - 1)) calls)
count_rose n calls fails =
    let below : n < 2 ^ 64 - 1 = grind (arith, nat_tests) in
    let stands : list_any (λ k. k == n + 1) calls ≡ true = (and_parts (nat_lt n (2 ^ 64 - 1)) (list_any (λ k. k == n + 1) calls) fails).1 in
    let next : min (n + 1) (2 ^ 64 - 1) ≡ n + 1 = omega arith in
    rw next (omega (arith, count_rises n calls stands))
