-- What a name is read as, by where the digits at its end begin.
use Rattle.std.proofs.Common.{◌≡◌, ◌∙◌, refl, sym, ap, ℕ, ◌+◌, ◌-◌, ◌<◌, ◌≤◌, Bool, true, false, List, [], ◌∷◌, ◌++◌, length, get_or, take, drop, reverse, arith}
use Rattle.std.specs.Prelude.{◌&&◌, ◌==◌}
use Rattle.std.proofs.Math.Seq.{take-append_seam, drop-append_seam}
use Rattle.std.proofs.lemmas.List.{length-drop, length-reverse, length-take-le, take_more, take_rest, reverse-append, reverse-reverse, take-append-drop}
use Rattle.script_text.specs.Bytes.{all, is_digit, run, number_after}
use Rattle.script_text.specs.Spelling.{Spelled, spelled, numbered, plain, is_number_part}
use Rattle.script_text.proofs.Spelled.{front_passes, all-reverse}

-- the digits at the end, and what stands in front of them, backwards
digits_back : (t : List ℕ) (k : ℕ) → k + run is_digit (reverse t) ≡ length t → take (run is_digit (reverse t)) (reverse t) ≡ reverse (drop k t)
digits_back t k e =
    let back : reverse t ≡ reverse (drop k t) ++ reverse (take k t) = sym (ap reverse (take-append-drop k t)) ∙ reverse-append (take k t) (drop k t) in
    let long : length (reverse (drop k t)) ≡ run is_digit (reverse t) = omega (arith, length-reverse (drop k t), length-drop k t, e) in
    ap (λ n. take n (reverse t)) (sym long) ∙ ap (take (length (reverse (drop k t)))) back ∙ take-append_seam (reverse (drop k t)) (reverse (take k t))

front_back : (t : List ℕ) (k : ℕ) → k + run is_digit (reverse t) ≡ length t → drop (run is_digit (reverse t)) (reverse t) ≡ reverse (take k t)
front_back t k e =
    let back : reverse t ≡ reverse (drop k t) ++ reverse (take k t) = sym (ap reverse (take-append-drop k t)) ∙ reverse-append (take k t) (drop k t) in
    let long : length (reverse (drop k t)) ≡ run is_digit (reverse t) = omega (arith, length-reverse (drop k t), length-drop k t, e) in
    ap (λ n. drop n (reverse t)) (sym long) ∙ ap (drop (length (reverse (drop k t)))) back ∙ drop-append_seam (reverse (drop k t)) (reverse (take k t))

parts : (t : List ℕ) (k : ℕ) → k + run is_digit (reverse t) ≡ length t → spelled t ≡ numbered t (drop k t) (reverse (take k t))
parts t k e =
    ap (λ ds. numbered t (reverse ds) (drop (run is_digit (reverse t)) (reverse t))) (digits_back t k e)
    ∙ ap (λ ds. numbered t ds (drop (run is_digit (reverse t)) (reverse t))) (reverse-reverse (drop k t))
    ∙ ap (numbered t (drop k t)) (front_back t k e)

pub all_digits : (t : List ℕ) (k : ℕ) → k + run is_digit (reverse t) ≡ length t → all is_digit (drop k t) ≡ true
all_digits t k e =
    ap (all is_digit) (sym (reverse-reverse (drop k t)) ∙ ap reverse (sym (digits_back t k e)))
    ∙ all-reverse is_digit (take (run is_digit (reverse t)) (reverse t)) (front_passes is_digit (reverse t))

-- ---- by what stands in front

numbered_short : (t ds r : List ℕ) → length r < 2 → numbered t ds r ≡ plain t
numbered_short t ds [] p = refl
numbered_short t ds (c ∷ []) p = refl
numbered_short t ds (c ∷ b ∷ bs) p = absurd (omega arith)

abbrev pub by_sign : Bool → List ℕ → List ℕ → List ℕ → Spelled
by_sign is t ds base = elim is [ true ↦ record { base = base; number = number_after 0 ds } | false ↦ plain t ]

numbered_long : (t ds r : List ℕ) (c : ℕ) → 0 < length r → numbered t ds (c ∷ r) ≡ by_sign ((c == 36) && is_number_part ds) t ds (reverse r)
numbered_long t ds [] c p = absurd (omega arith)
numbered_long t ds (b ∷ bs) c p = refl

front_is : (t : List ℕ) (k : ℕ) → 0 < k → k ≤ length t → reverse (take k t) ≡ get_or t (k - 1) 0 ∷ reverse (take (k - 1) t)
front_is t k p q =
    let n : (k - 1) + 1 ≡ k = omega (arith, p) in
    let cut : take k t ≡ take (k - 1) t ++ (get_or t (k - 1) 0 ∷ []) = ap (λ j. take j t) (sym n) ∙ take_more t (k - 1) 0 (omega (arith, p, q)) in
    ap reverse cut ∙ reverse-append (take (k - 1) t) (get_or t (k - 1) 0 ∷ [])

pub read_short : (t : List ℕ) (k : ℕ) → k + run is_digit (reverse t) ≡ length t → k < 2 → spelled t ≡ plain t
read_short t k e p = parts t k e ∙ numbered_short t (drop k t) (reverse (take k t)) (omega (arith, length-reverse (take k t), length-take-le k t (omega (arith, e)), p))

read_long : (t : List ℕ) (k : ℕ) → k + run is_digit (reverse t) ≡ length t → 2 ≤ k → spelled t ≡ by_sign ((get_or t (k - 1) 0 == 36) && is_number_part (drop k t)) t (drop k t) (take (k - 1) t)
read_long t k e p =
    parts t k e
    ∙ ap (numbered t (drop k t)) (front_is t k (omega (arith, p)) (omega (arith, e)))
    ∙ numbered_long t (drop k t) (reverse (take (k - 1) t)) (get_or t (k - 1) 0) (omega (arith, length-reverse (take (k - 1) t), length-take-le (k - 1) t (omega (arith, e)), p))
    ∙ ap (by_sign ((get_or t (k - 1) 0 == 36) && is_number_part (drop k t)) t (drop k t)) (reverse-reverse (take (k - 1) t))

and_no : (a b : Bool) → b ≡ false → (a && b) ≡ false
and_no true b e = e
and_no false b e = refl

and_yes : (a b : Bool) → a ≡ true → b ≡ true → (a && b) ≡ true
and_yes true b p e = e
and_yes false b p e = absurd (cc)

pub read_unsigned : (t : List ℕ) (k : ℕ) → k + run is_digit (reverse t) ≡ length t → 2 ≤ k → (get_or t (k - 1) 0 == 36) ≡ false → spelled t ≡ plain t
read_unsigned t k e p q = read_long t k e p ∙ ap (λ b. by_sign (b && is_number_part (drop k t)) t (drop k t) (take (k - 1) t)) q

pub read_undigited : (t : List ℕ) (k : ℕ) → k + run is_digit (reverse t) ≡ length t → 2 ≤ k → is_number_part (drop k t) ≡ false → spelled t ≡ plain t
read_undigited t k e p q = read_long t k e p ∙ ap (λ b. by_sign b t (drop k t) (take (k - 1) t)) (and_no (get_or t (k - 1) 0 == 36) (is_number_part (drop k t)) q)

pub read_numbered : (t : List ℕ) (k : ℕ) → k + run is_digit (reverse t) ≡ length t → 2 ≤ k → (get_or t (k - 1) 0 == 36) ≡ true → is_number_part (drop k t) ≡ true → spelled t ≡ record { base = take (k - 1) t; number = number_after 0 (drop k t) }
read_numbered t k e p q d = read_long t k e p ∙ ap (λ b. by_sign b t (drop k t) (take (k - 1) t)) (and_yes (get_or t (k - 1) 0 == 36) (is_number_part (drop k t)) q d)

-- ---- as the code sees it: n digits at the end of b

pub end_of : (b : List ℕ) (n : ℕ) → n ≡ run is_digit (reverse b) → n ≤ length b → (length b - n) + run is_digit (reverse b) ≡ length b
end_of b n e p = omega (arith, e, p)

pub rest_is : (b : List ℕ) (k : ℕ) → take (length b - k) (drop k b) ≡ drop k b
rest_is b k = take_rest b k
