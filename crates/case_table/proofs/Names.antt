-- Names that differ, and the first place of a name
use Rattle.std.proofs.Common.{◌≡◌, ◌≢◌, refl, ap, sym, ℕ, zero, suc, ◌<◌, Bool, true, false, cond, not, List, [], ◌∷◌, length, map, get_or, arith}
use Rattle.std.specs.Prelude.{◌&&◌, nat_lt, ◌+◌, Option, Some, None}
use Rattle.std.specs.List.{position_or_len}
use Rattle.std.specs.Str.{bytes_eq}
use Rattle.std.proofs.lemmas.Slice.Eq.{bytes_eq-Decides}
use Rattle.std.proofs.lemmas.Bool.Decides.{nat_tests}
use Rattle.std.proofs.lemmas.List.Sums.{fails_before_first, passes_at_first}
use Rattle.script_text.specs.Laws.{AreDistinct}
use Rattle.case_table.specs.Place.{IsPlace}

abbrev pub is_apart : List ℕ → List (List ℕ) → Bool
is_apart t [] = true
is_apart t (u ∷ us) = not (bytes_eq t u) && is_apart t us

abbrev pub are_apart : List (List ℕ) → Bool
are_apart [] = true
are_apart (t ∷ ts) = is_apart t ts && are_apart ts

both : (a b : Bool) → (a && b) ≡ true → (a ≡ true) × (b ≡ true)
both true b e = (refl, e)
both false b e = cc

same : (s t : List ℕ) → s ≡ t → not (bytes_eq s t) ≡ true → ⊥
same s t e apart = let yes = (bytes_eq-Decides s t).1 e in let no : not true ≡ true = rw yes at apart in cc

not_among : (t : List ℕ) (us : List (List ℕ)) → is_apart t us ≡ true → (j : ℕ) → j < length us → t ≡ get_or us j [] → ⊥
not_among t [] apart j within e = absurd (omega (arith, within))
not_among t (u ∷ us) apart zero within e = same t u e (both (not (bytes_eq t u)) _ apart).0
not_among t (u ∷ us) apart (suc j) within e = not_among t us (both (not (bytes_eq t u)) _ apart).1 j (omega (arith, within)) e

pub distinct : (ts : List (List ℕ)) → are_apart ts ≡ true → AreDistinct ts
distinct [] apart b c bw cw e = absurd (omega (arith, bw))
distinct (t ∷ ts) apart zero zero bw cw e = refl
distinct (t ∷ ts) apart zero (suc c) bw cw e = absurd (not_among t ts (both (is_apart t ts) _ apart).0 c (omega (arith, cw)) e)
distinct (t ∷ ts) apart (suc b) zero bw cw e = absurd (not_among t ts (both (is_apart t ts) _ apart).0 b (omega (arith, bw)) (sym e))
distinct (t ∷ ts) apart (suc b) (suc c) bw cw e = ap suc (distinct ts (both (is_apart t ts) _ apart).1 b c (omega (arith, bw)) (omega (arith, cw)) e)

abbrev pub first_place : List ℕ → List (List ℕ) → ℕ
first_place name ts = position_or_len (λ t. bytes_eq t name) ts

pub place_by_names : {X Y : Type 0} (f : X → Y) (g : Y → List ℕ) (name : List ℕ) (xs : List X)
    → position_or_len (λ x. bytes_eq (g (f x)) name) xs ≡ first_place name (map g (map f xs))
place_by_names f g name [] = refl
place_by_names f g name (x ∷ xs) = ap (λ n. cond (not (bytes_eq (g (f x)) name)) (1 + n) 0) (place_by_names f g name xs)

other_before : (name : List ℕ) (ts : List (List ℕ)) (i : ℕ) → i < first_place name ts → get_or ts i [] ≢ name
other_before name ts i before same =
    let no : bytes_eq (get_or ts i []) name ≡ false = fails_before_first (λ t. bytes_eq t name) ts i [] before in
    let yes = (bytes_eq-Decides (get_or ts i []) name).1 same in
    cc

place_within : (name : List ℕ) (ts : List (List ℕ)) → first_place name ts < length ts → IsPlace name ts (Some (first_place name ts))
place_within name ts within =
    let yes : bytes_eq (get_or ts (first_place name ts) []) name ≡ true = passes_at_first (λ t. bytes_eq t name) ts [] within in
    (within, (bytes_eq-Decides _ name).0 yes, other_before name ts)

pub place_is : (name : List ℕ) (ts : List (List ℕ)) (n k : ℕ) (r : Option ℕ) → n ≡ first_place name ts → k ≡ length ts
    → r ≡ cond (nat_lt n k) (Some n) None → IsPlace name ts r
place_is name ts n k r is all found = rw (found, is, all) (go (nat_lt (first_place name ts) (length ts)) refl)
  where
    go : (b : Bool) → nat_lt (first_place name ts) (length ts) ≡ b → IsPlace name ts (cond b (Some (first_place name ts)) None)
    go true e = let within : first_place name ts < length ts = grind (arith, nat_tests) in place_within name ts within
    go false e = λ i within.
        let before : i < first_place name ts = grind (arith, nat_tests) in other_before name ts i before
