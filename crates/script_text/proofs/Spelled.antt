-- A name is the text of the symbol that it is read as.
use Rattle.std.proofs.Common.{◌≡◌, refl, sym, ap, ◌∙◌, ℕ, zero, suc, ◌^◌, ◌<◌, ◌≤◌, Bool, true, false, cond, List, [], ◌∷◌, ◌++◌, length, get_or, take, drop, reverse, append_assoc, true≢false, rules, arith, ne_eqb, eqb-true}
use Rattle.std.specs.Prelude.{◌&&◌, ◌==◌, not, leb}
use Rattle.std.specs.Fmt.{decimal}
use Rattle.std.proofs.lemmas.Bool.{not-true, leb-true, eqb-false}
use Rattle.std.proofs.lemmas.Fmt.{decimal-digits_value, decimal_digit}
use Rattle.std.proofs.lemmas.List.{append-nil, reverse-append, reverse-reverse, take-append-drop}
use Rattle.std.proofs.lemmas.Str.Parse.{IsNumeralModel, numerals_by_fold, digits_value_short}
use Rattle.script_text.specs.Bytes.{is_digit, all, run, number_after}
use Rattle.script_text.specs.Spelling.{Spelled, spelled, numbered, plain, is_number_part, number_suffix}

own : IsNumeralModel (λ ds. all is_digit ds ≡ true) (number_after 0)
own = numerals_by_fold _ (search rules) number_after (search rules)

pub both_true : (a b : Bool) → (a && b) ≡ true → (a ≡ true) × (b ≡ true)
both_true true b e = (refl, e)
both_true false b e = absurd (true≢false (sym e))

pub reverse_cons : (c : ℕ) (cs : List ℕ) → reverse (c ∷ cs) ≡ reverse cs ++ (c ∷ [])
reverse_cons c cs = reverse-append (c ∷ []) cs

-- ---- the digits at the end

pub front_passes : (test : ℕ → Bool) (cs : List ℕ) → all test (take (run test cs) cs) ≡ true
front_passes test [] = refl
front_passes test (c ∷ cs) = go (test c) refl (front_passes test cs)
  where
    go : (b : Bool) → test c ≡ b → all test (take (run test cs) cs) ≡ true → all test (take (elim b [ true ↦ suc (run test cs) | false ↦ zero ]) (c ∷ cs)) ≡ true
    go true e next = rw e next
    go false e next = refl

all-append : (test : ℕ → Bool) (s t : List ℕ) → all test s ≡ true → all test t ≡ true → all test (s ++ t) ≡ true
all-append test [] t p q = q
all-append test (c ∷ s) t p q =
    let both = both_true (test c) (all test s) p in
    rw both.0 (all-append test s t both.1 q)

pub all-reverse : (test : ℕ → Bool) (s : List ℕ) → all test s ≡ true → all test (reverse s) ≡ true
all-reverse test [] p = refl
all-reverse test (c ∷ s) p =
    let both = both_true (test c) (all test s) p in
    let one : all test (c ∷ []) ≡ true = rw both.0 refl in
    rw (reverse_cons c s) (all-append test (reverse s) (c ∷ []) (all-reverse test s both.1) one)

-- ---- the number behind the `$`

suffix_at : (n : ℕ) → (n == 0) ≡ false → number_suffix n ≡ 36 ∷ decimal n
suffix_at n z = ap (λ b. cond b [] (36 ∷ decimal n)) z

suffix_is : (ds : List ℕ) → is_number_part ds ≡ true → all is_digit ds ≡ true → number_suffix (number_after 0 ds) ≡ 36 ∷ ds
suffix_is [] p q = absurd (true≢false (sym p))
suffix_is (d ∷ ds) p q =
    let both = both_true (not (d == 48)) (leb (length ds) 17) p in
    let short : length ds ≤ 17 = leb-true (length ds) 17 both.1 in
    let first : d ≡ 48 → ⊥ = eqb-false d 48 (not-true (d == 48) both.0) in
    let small : number_after 0 (d ∷ ds) < 10 ^ 18 = digits_value_short own (d ∷ ds) 18 q (omega arith) in
    let written : decimal (number_after 0 (d ∷ ds)) ≡ d ∷ ds = decimal-digits_value own (d ∷ ds) q (omega arith) (λ e. absurd (first e)) (omega arith) in
    let positive : number_after 0 (d ∷ ds) ≡ 0 → ⊥ = λ e. first (ap (λ v. get_or v 0 0) (sym written ∙ ap decimal e ∙ decimal_digit 0 (omega arith))) in
    let z : (number_after 0 (d ∷ ds) == 0) ≡ false = ne_eqb (number_after 0 (d ∷ ds)) 0 positive in
    suffix_at (number_after 0 (d ∷ ds)) z ∙ ap (λ v. 36 ∷ v) written

-- ---- the whole

abbrev pub text_of : Spelled → List ℕ
text_of s = s.base ++ number_suffix s.number

plain_back : (t : List ℕ) → text_of (plain t) ≡ t
plain_back t = append-nil t

numbered_back : (t ds rest : List ℕ) → reverse rest ++ ds ≡ t → all is_digit ds ≡ true → text_of (numbered t ds rest) ≡ t
numbered_back t ds [] e q = plain_back t
numbered_back t ds (c ∷ []) e q = plain_back t
numbered_back t ds (c ∷ b ∷ bs) e q = go ((c == 36) && is_number_part ds) refl
  where
    go : (k : Bool) → ((c == 36) && is_number_part ds) ≡ k
        → text_of (elim k [ true ↦ record { base = reverse (b ∷ bs); number = number_after 0 ds } | false ↦ plain t ]) ≡ t
    go true h =
        let both = both_true (c == 36) (is_number_part ds) h in
        ap (λ v. reverse (b ∷ bs) ++ v) (suffix_is ds both.1 q)
        ∙ ap (λ k. reverse (b ∷ bs) ++ (k ∷ ds)) (sym (eqb-true c 36 both.0))
        ∙ sym (append_assoc (reverse (b ∷ bs)) (c ∷ []) ds)
        ∙ ap (λ v. v ++ ds) (sym (reverse_cons c (b ∷ bs)))
        ∙ e
    go false h = plain_back t

pub spelled_back : (t : List ℕ) → text_of (spelled t) ≡ t
spelled_back t =
    let back = reverse t in
    let n = run is_digit back in
    numbered_back t (reverse (take n back)) (drop n back)
    (sym (reverse-append (take n back) (drop n back)) ∙ ap reverse (take-append-drop n back) ∙ reverse-reverse t)
    (all-reverse is_digit (take n back) (front_passes is_digit back))
