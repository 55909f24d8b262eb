-- Digits at the end of a text, and the number that they write.
use Rattle.std.proofs.Common.{◌≡◌, ◌∙◌, refl, sym, ap, ℕ, zero, suc, ◌+◌, ◌-◌, ◌*◌, ◌^◌, ◌<◌, ◌≤◌, Bool, true, false, true≢false, List, [], ◌∷◌, length, get_or, drop, reverse, drop-cons, add-one, arith}
use Rattle.std.proofs.Math.Nat.{pow-suc}
use Rattle.std.proofs.Math.ListN.{drop_of_length-le}
use Rattle.std.proofs.lemmas.List.{get_or-reverse, length-reverse}
use Rattle.std.specs.Prelude.{◌&&◌}
use Rattle.script_text.specs.Bytes.{is_digit, all, run, number_after}

at_place : (xs : List ℕ) (i d : ℕ) → i < length xs → drop i xs ≡ get_or xs i d ∷ drop (suc i) xs
at_place xs i d p = drop-cons xs i d p

-- the run from the i-th byte on
run_on : (c : ℕ) (cs : List ℕ) → is_digit c ≡ true → run is_digit (c ∷ cs) ≡ suc (run is_digit cs)
run_on c cs e = ap (λ b. elim b [ true ↦ suc (run is_digit cs) | false ↦ zero ]) e

run_off : (c : ℕ) (cs : List ℕ) → is_digit c ≡ false → run is_digit (c ∷ cs) ≡ 0
run_off c cs e = ap (λ b. elim b [ true ↦ suc (run is_digit cs) | false ↦ zero ]) e

-- the count so far, when the next byte from the end is a digit
pub run_more : (t : List ℕ) (n : ℕ) → n < length t → is_digit (get_or t (length t - 1 - n) 0) ≡ true → run is_digit (drop n (reverse t)) ≡ run is_digit (drop (n + 1) (reverse t)) + 1
run_more t n p e =
    let long : n < length (reverse t) = omega (arith, length-reverse t) in
    let next : drop n (reverse t) ≡ get_or (reverse t) n 0 ∷ drop (suc n) (reverse t) = at_place (reverse t) n 0 long in
    let digit : is_digit (get_or (reverse t) n 0) ≡ true = ap is_digit (get_or-reverse t n 0 p) ∙ e in
    let more : run is_digit (drop n (reverse t)) ≡ suc (run is_digit (drop (suc n) (reverse t))) = ap (run is_digit) next ∙ run_on (get_or (reverse t) n 0) (drop (suc n) (reverse t)) digit in
    rw (add-one n) (omega (arith, more))

pub run_ends : (t : List ℕ) (n : ℕ) → n < length t → is_digit (get_or t (length t - 1 - n) 0) ≡ false → run is_digit (drop n (reverse t)) ≡ 0
run_ends t n p e =
    let long : n < length (reverse t) = omega (arith, length-reverse t) in
    let next : drop n (reverse t) ≡ get_or (reverse t) n 0 ∷ drop (suc n) (reverse t) = at_place (reverse t) n 0 long in
    let digit : is_digit (get_or (reverse t) n 0) ≡ false = ap is_digit (get_or-reverse t n 0 p) ∙ e in
    ap (run is_digit) next ∙ run_off (get_or (reverse t) n 0) (drop (suc n) (reverse t)) digit

pub run_out : (t : List ℕ) (n : ℕ) → length t ≤ n → run is_digit (drop n (reverse t)) ≡ 0
run_out t n p = let long : length (reverse t) ≤ n = omega (arith, length-reverse t) in ap (run is_digit) (drop_of_length-le (reverse t) long)

-- ---- the number

pub digit_bounds : (c : ℕ) → is_digit c ≡ true → (48 ≤ c) × (c ≤ 57)
digit_bounds c e = grind arith

pub digit_at : (ds : List ℕ) (i : ℕ) → all is_digit ds ≡ true → i < length ds → is_digit (get_or ds i 0) ≡ true
digit_at [] i e p = absurd (omega arith)
digit_at (d ∷ ds) zero e p = first (is_digit d) (all is_digit ds) e
  where
    first : (a b : Bool) → (a && b) ≡ true → a ≡ true
    first true b e = refl
    first false b e = e
digit_at (d ∷ ds) (suc i) e p = digit_at ds i (second (is_digit d) (all is_digit ds) e) (omega arith)
  where
    second : (a b : Bool) → (a && b) ≡ true → b ≡ true
    second true b e = e
    second false b e = absurd (true≢false (sym e))

pub number_step : (ds : List ℕ) (i n : ℕ) → i < length ds → number_after n (drop i ds) ≡ number_after (n * 10 + (get_or ds i 0 - 48)) (drop (i + 1) ds)
number_step ds i n p = rw (add-one i) (ap (number_after n) (at_place ds i 0 p))

pub number_end : (ds : List ℕ) (i n : ℕ) → length ds ≤ i → number_after n (drop i ds) ≡ n
number_end ds i n p = ap (number_after n) (drop_of_length-le ds p)

-- a number of i digits with one more stays small
pub tenfold : (n d i : ℕ) → n < 10 ^ i → d ≤ 9 → n * 10 + d < 10 ^ (i + 1)
tenfold n d i p q =
    let e : 10 ^ suc i ≡ 10 ^ i * 10 = pow-suc 10 i in
    let more : n * 10 + d < 10 ^ suc i = omega (arith, e, p, q) in
    rw (add-one i) more

rise_by : (i k : ℕ) → 10 ^ i ≤ 10 ^ (k + i)
rise_by i zero = let e : zero + i ≡ i = omega arith in rw e (omega arith)
rise_by i (suc k) =
    let next : suc k + i ≡ suc (k + i) = omega arith in
    let e : 10 ^ suc (k + i) ≡ 10 ^ (k + i) * 10 = pow-suc 10 (k + i) in
    rw next (omega (arith, e, rise_by i k))

pub tens_rise : (i j : ℕ) → i ≤ j → 10 ^ i ≤ 10 ^ j
tens_rise i j p = let e : (j - i) + i ≡ j = omega (arith, p) in rw (← e) (rise_by i (j - i))

pub ruleset digit_steps = (run_more, run_ends, run_out, number_step, number_end, digit_at, digit_bounds, tenfold)
