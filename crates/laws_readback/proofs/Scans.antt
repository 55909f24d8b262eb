-- What stands at the front of a text, by the kind of its first byte.
use Rattle.std.proofs.Common.{◌≡◌, ◌≢◌, refl, sym, ap, ◌∙◌, ℕ, zero, suc, ◌≤◌, ◌⊎◌, inl, inr, ⊎_elim, Bool, true, false, List, [], ◌∷◌, ◌++◌, length, drop, true≢false, arith, ne_eqb, eqb-true, leb-true, le-leb}
use Rattle.std.specs.Prelude.{◌==◌, ◌&&◌, ◌||◌, leb, not, codes}
use Rattle.std.proofs.lemmas.Bool.{lt-leb}
use Rattle.script_text.specs.Bytes.{is_letter, is_digit, begins_name, in_name, is_white, run, all, begins_with}
use Rattle.syntax.specs.Signs.{signs}
use Rattle.syntax.specs.Tokens as tok

pub both_true : (a b : Bool) → (a && b) ≡ true → (a ≡ true) × (b ≡ true)
both_true true b e = (refl, e)
both_true false b e = absurd (true≢false (sym e))

pub not_true : (a : Bool) → not a ≡ true → a ≡ false
not_true true e = absurd (true≢false (sym e))
not_true false e = refl

pub or_false : (a b : Bool) → (a || b) ≡ false → (a ≡ false) × (b ≡ false)
or_false true b e = absurd (true≢false e)
or_false false b e = (refl, e)

-- ---- what may follow a word

abbrev pub ends_word : ℕ → Bool
ends_word c = not (in_name c) && (not (c == 95) && (not (c == 35) && not (c == 38)))

abbrev pub Ends : List ℕ → Type 0
Ends [] = Unit {0}
Ends (c ∷ cs) = ends_word c ≡ true

pub record Ender (c : ℕ) : Type 0 where
  pub no_name : in_name c ≡ false
  pub no_first : begins_name c ≡ false
  pub no_digit : is_digit c ≡ false
  pub no_mark : (c == 95) ≡ false
  pub no_hash : (c == 35) ≡ false
  pub no_and : (c == 38) ≡ false

pub ender : (c : ℕ) → ends_word c ≡ true → Ender c
ender c e =
    let p = both_true (not (in_name c)) _ e in
    let q = both_true (not (c == 95)) _ p.1 in
    let r = both_true (not (c == 35)) _ q.1 in
    let n = not_true (in_name c) p.0 in
    let d = or_false (begins_name c) (is_digit c) n in
    record { no_name = n; no_first = d.0; no_digit = d.1; no_mark = not_true (c == 95) q.0; no_hash = not_true (c == 35) r.0; no_and = not_true (c == 38) r.1 }

-- the text does not begin with what passes the test
abbrev pub Stops : (ℕ → Bool) → List ℕ → Type 0
Stops test [] = Unit {0}
Stops test (c ∷ cs) = test c ≡ false

pub run_all : (test : ℕ → Bool) (t rest : List ℕ) → all test t ≡ true → Stops test rest → run test (t ++ rest) ≡ length t
run_all test [] [] a s = refl
run_all test [] (c ∷ rest) a s = ap (λ b. elim b [ true ↦ suc (run test rest) | false ↦ zero ]) s
run_all test (c ∷ t) rest a s =
    let both = both_true (test c) (all test t) a in
    ap (λ b. elim b [ true ↦ suc (run test (t ++ rest)) | false ↦ zero ]) both.0 ∙ ap suc (run_all test t rest both.1 s)

pub stops_name : (rest : List ℕ) → Ends rest → Stops in_name rest
stops_name [] e = tt
stops_name (c ∷ rest) e = (ender c e).no_name

pub stops_digit : (rest : List ℕ) → Ends rest → Stops is_digit rest
stops_digit [] e = tt
stops_digit (c ∷ rest) e = (ender c e).no_digit

-- ---- what stands at the front

abbrev pub scan_by : ℕ → List ℕ → Bool → Bool → Bool → Bool → Bool → Bool → Bool → tok.Scan
scan_by c cs true comment digit name mark quote hash = tok.Skips 1
scan_by c cs false true digit name mark quote hash = tok.comment_end 1 0 2 (drop 1 cs)
scan_by c cs false false true name mark quote hash = tok.number_scan (c ∷ cs)
scan_by c cs false false false true mark quote hash = tok.name_scan (c ∷ cs)
scan_by c cs false false false false true quote hash = tok.blank_after 0 (c ∷ cs)
scan_by c cs false false false false false true hash = tok.string_end false 1 cs
scan_by c cs false false false false false false true = tok.slot_scan cs
scan_by c cs false false false false false false false = tok.operator_in signs (c ∷ cs)

pub scan_is : (c : ℕ) (cs : List ℕ) → tok.scan c cs ≡ scan_by c cs (is_white c) (begins_with (codes "(*") (c ∷ cs)) (is_digit c) (begins_name c) (c == 95) (c == 34) (c == 35)
scan_is c cs = go (is_white c) (begins_with (codes "(*") (c ∷ cs)) (is_digit c) (begins_name c) (c == 95) (c == 34) (c == 35)
  where
    go : (white comment digit name mark quote hash : Bool) →
        elim white [
          | true ↦ tok.Skips 1
          | false ↦ elim comment [
            | true ↦ tok.comment_end 1 0 2 (drop 1 cs)
            | false ↦ elim digit [
              | true ↦ tok.number_scan (c ∷ cs)
              | false ↦ elim name [
                | true ↦ tok.name_scan (c ∷ cs)
                | false ↦ elim mark [
                  | true ↦ tok.blank_after 0 (c ∷ cs)
                  | false ↦ elim quote [
                    | true ↦ tok.string_end false 1 cs
                    | false ↦ elim hash [ true ↦ tok.slot_scan cs | false ↦ tok.operator_in signs (c ∷ cs) ]
                  ]
                ]
              ]
            ]
          ]
        ] ≡ scan_by c cs white comment digit name mark quote hash
    go true comment digit name mark quote hash = refl
    go false true digit name mark quote hash = refl
    go false false true name mark quote hash = refl
    go false false false true mark quote hash = refl
    go false false false false true quote hash = refl
    go false false false false false true hash = refl
    go false false false false false false true = refl
    go false false false false false false false = refl

no_comment : (c : ℕ) (cs : List ℕ) → (c == 40) ≡ false → begins_with (codes "(*") (c ∷ cs) ≡ false
no_comment c cs e = ap (λ b. elim b [ true ↦ begins_with (42 ∷ []) cs | false ↦ false ]) e

record Plain (c : ℕ) : Type 0 where
  white : is_white c ≡ false
  other : (c == 40) ≡ false

plain_by : (c : ℕ) → 33 ≤ c → c ≢ 40 → Plain c
plain_by c h n =
    let a : (c == 32) ≡ false = ne_eqb c 32 (omega arith) in
    let b : (c == 9) ≡ false = ne_eqb c 9 (omega arith) in
    let d : (c == 13) ≡ false = ne_eqb c 13 (omega arith) in
    let e : (c == 10) ≡ false = ne_eqb c 10 (omega arith) in
    record { white = rw (a, b, d, e) refl; other = ne_eqb c 40 n }

scan_plain : (c : ℕ) (cs : List ℕ) → Plain c → tok.scan c cs ≡ scan_by c cs false false (is_digit c) (begins_name c) (c == 95) (c == 34) (c == 35)
scan_plain c cs p =
    scan_is c cs
    ∙ ap (λ b. scan_by c cs b (begins_with (codes "(*") (c ∷ cs)) (is_digit c) (begins_name c) (c == 95) (c == 34) (c == 35)) p.white
    ∙ ap (λ b. scan_by c cs false b (is_digit c) (begins_name c) (c == 95) (c == 34) (c == 35)) (no_comment c cs p.other)

digit_at : (c : ℕ) → is_digit c ≡ true → 48 ≤ c
digit_at c e = leb-true 48 c (both_true (leb 48 c) (leb c 57) e).0

pub scan_digit : (c : ℕ) (cs : List ℕ) → is_digit c ≡ true → tok.scan c cs ≡ tok.number_scan (c ∷ cs)
scan_digit c cs e =
    let h = digit_at c e in
    scan_plain c cs (plain_by c (omega (arith, h)) (λ q. omega (arith, h, q))) ∙ ap (λ b. scan_by c cs false false b (begins_name c) (c == 95) (c == 34) (c == 35)) e

either : (a b : Bool) → (a || b) ≡ true → (a ≡ true) ⊎ (b ≡ true)
either true b e = inl refl
either false b e = inr e

letter_at : (c : ℕ) → is_letter c ≡ true → 65 ≤ c
letter_at c e =
    ⊎_elim (λ (p : (leb 97 c && leb c 122) ≡ true). let h = leb-true 97 c (both_true (leb 97 c) (leb c 122) p).0 in omega (arith, h))
    (λ (p : (leb 65 c && leb c 90) ≡ true). leb-true 65 c (both_true (leb 65 c) (leb c 90) p).0)
    (either (leb 97 c && leb c 122) (leb 65 c && leb c 90) e)

high_digit : (c : ℕ) → 65 ≤ c → is_digit c ≡ false
high_digit c h =
    let a : leb 48 c ≡ true = le-leb 48 c (omega arith) in
    let b : leb c 57 ≡ false = lt-leb c 57 (omega arith) in
    rw (a, b) refl

pub scan_name : (c : ℕ) (cs : List ℕ) → begins_name c ≡ true → tok.scan c cs ≡ tok.name_scan (c ∷ cs)
scan_name c cs e = ⊎_elim letter dollar (either (is_letter c) (c == 36) e)
  where
    named : Plain c → is_digit c ≡ false → tok.scan c cs ≡ tok.name_scan (c ∷ cs)
    named p d =
        scan_plain c cs p ∙ ap (λ b. scan_by c cs false false b (begins_name c) (c == 95) (c == 34) (c == 35)) d
        ∙ ap (λ b. scan_by c cs false false false b (c == 95) (c == 34) (c == 35)) e

    letter : is_letter c ≡ true → tok.scan c cs ≡ tok.name_scan (c ∷ cs)
    letter l = let h = letter_at c l in named (plain_by c (omega (arith, h)) (λ q. omega (arith, h, q))) (high_digit c h)

    dollar : (c == 36) ≡ true → tok.scan c cs ≡ tok.name_scan (c ∷ cs)
    dollar d = let q : c ≡ 36 = eqb-true c 36 d in named (plain_by c (omega (arith, q)) (λ r. omega (arith, q, r))) (ap is_digit q)
