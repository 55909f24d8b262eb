-- White space, numbers and slots at the front of a text.
use Rattle.std.proofs.Common.{◌≡◌, refl, sym, ap, ap₂, ◌∙◌, subst, ℕ, zero, suc, ◌+◌, ◌<◌, ◌≤◌, ◌^◌, Bool, true, false, List, [], ◌∷◌, ◌++◌, length, take, drop, true≢false, arith, append_assoc, length-append, ltb-true, eqb-true, leb-true, leb-false, le-leb}
use Rattle.std.specs.Prelude.{◌==◌, ◌&&◌, ◌||◌, not, leb, ltb, pred}
use Rattle.std.proofs.lemmas.Bool.{ltb-false, lt-leb}
use Rattle.script_text.specs.Bytes.{is_digit, is_white, run, all, begins_with, number_after}
use Rattle.syntax.specs.Tokens as tok
use Rattle.syntax.specs.Tokens.{Kind, Scan, Takes, Skips, Faults, number_scan, slot_number, slot_after, slot_scan}
use Rattle.laws_tokens.specs.Texts.{Part, Whole, IsPart, IsSpace, IsNumber, IsWide, AreDigits, IsHash, one, two, IsHashed, is_slot_number}
use Rattle.laws_tokens.specs.Texts as of
use Rattle.laws_tokens.specs.Longest.{IsLongest, HasNone}
use Rattle.laws_tokens.proofs.Fronts.{White, Digit, Hash, can_be, white_first, digit_first, hash_first, longest_by, Split, split, within_run, taken, both_true}

-- what is answered of a part of so many bytes
abbrev pub answer : Part → ℕ → Scan
answer (Whole kind) n = Takes kind n
answer of.Space n = Skips n
answer of.Comment n = Skips n
answer of.Wide n = Faults tok.WideNumber 0
answer of.BadSlot n = Faults tok.BadByte 0
answer of.OpenString n = Faults tok.OpenString 0
answer of.BadEscape n = Faults tok.BadByte (pred n)
answer of.OpenComment n = Faults tok.OpenComment 0

-- the answer is that of the longest part, or there is none
pub data Stands (text : List ℕ) (s : Scan) : Type 0 where
  stands : (part : Part) (front rest : List ℕ) → IsLongest text part front rest → s ≡ answer part (length front) → Stands text s
  strange : HasNone text → s ≡ Faults tok.BadByte 0 → Stands text s

-- ---- white space

space_bound : (c : ℕ) (q : Part) (t : List ℕ) → can_be White q ≡ true → IsPart q t → length t ≤ 1
space_bound c of.Space t e i = let h = ap length i.is in omega (arith, h)
space_bound c _ t e i = absurd (true≢false (sym e))

pub space_stands : (c : ℕ) (cs : List ℕ) → is_white c ≡ true → Stands (c ∷ cs) (Skips 1)
space_stands c cs e =
    stands of.Space (c ∷ []) cs
    (longest_by c cs White (white_first c e) of.Space (c ∷ []) cs refl (record { byte = c; is = refl; white = e }) (λ q t u w f i. space_bound c q t f i))
    refl

-- ---- numbers

digits_bound : (xs : List ℕ) (s : Split is_digit xs) (q : Part) (t u : List ℕ) → xs ≡ t ++ u → can_be Digit q ≡ true → IsPart q t → length t ≤ length s.front
digits_bound xs s (Whole Kind.Number) t u w e i = within_run is_digit xs s t u w i.digits.digits
digits_bound xs s of.Wide t u w e i = within_run is_digit xs s t u w i.digits.digits
digits_bound xs s _ t u w e i = absurd (true≢false (sym e))

some_front : (test : ℕ → Bool) (c : ℕ) (cs : List ℕ) (s : Split test (c ∷ cs)) → test c ≡ true → 0 < length s.front
some_front test c cs s e =
    let h = within_run test (c ∷ cs) s (c ∷ []) cs refl (ap (λ b. b && true) e) in
    omega (arith, h)

pub number_stands : (c : ℕ) (cs : List ℕ) → is_digit c ≡ true → Stands (c ∷ cs) (number_scan (c ∷ cs))
number_stands c cs e =
    let s = split is_digit (c ∷ cs) in
    let front : take (run is_digit (c ∷ cs)) (c ∷ cs) ≡ s.front = ap₂ (λ n xs. take n xs) s.long s.whole ∙ taken s.front s.back in
    subst (Stands (c ∷ cs))
    (ap₂ (λ n t. elim (ltb (number_after 0 t) (2 ^ 127)) as (λ _. Scan) [ true ↦ Takes Kind.Number n | false ↦ Faults tok.WideNumber 0 ]) (sym s.long) (sym front))
    (go s (record { some = some_front is_digit c cs s e; digits = s.passes }) (ltb (number_after 0 s.front) (2 ^ 127)) refl)
  where
    go : (s : Split is_digit (c ∷ cs)) → AreDigits s.front → (b : Bool) → ltb (number_after 0 s.front) (2 ^ 127) ≡ b →
        Stands (c ∷ cs) (elim b as (λ _. Scan) [ true ↦ Takes Kind.Number (length s.front) | false ↦ Faults tok.WideNumber 0 ])
    go s d true g =
        stands (Whole Kind.Number) s.front s.back
        (longest_by c cs Digit (digit_first c e) (Whole Kind.Number) s.front s.back s.whole (record { digits = d; fits = ltb-true (number_after 0 s.front) (2 ^ 127) g }) (digits_bound (c ∷ cs) s))
        refl
    go s d false g =
        stands of.Wide s.front s.back
        (longest_by c cs Digit (digit_first c e) of.Wide s.front s.back s.whole (record { digits = d; wide = ltb-false (number_after 0 s.front) (2 ^ 127) g }) (digits_bound (c ∷ cs) s))
        refl

-- ---- slots

-- behind one `#` there is no other
hashed_bound : (c : ℕ) (cs : List ℕ) (s : Split is_digit cs) (good : Bool) (t u : List ℕ) → begins_with (35 ∷ []) cs ≡ false → c ∷ cs ≡ t ++ u → IsHashed good t → length t ≤ suc (length s.front)
hashed_bound c cs s good t u n w i = go i.marks i.number i.hash i.digits i.is w
  where
    go : (marks number : List ℕ) → IsHash marks → all is_digit number ≡ true → t ≡ marks ++ number → c ∷ cs ≡ t ++ u → length t ≤ suc (length s.front)
    go marks number one a e w =
        let rest : cs ≡ number ++ u = (let z : c ∷ cs ≡ 35 ∷ (number ++ u) = w ∙ ap (λ (xs : List ℕ). xs ++ u) e in cc) in
        let h = within_run is_digit cs s number u rest a in
        let l : length t ≡ suc (length number) = ap length e in
        omega (arith, h, l)
    go marks number two a e w =
        let rest : cs ≡ 35 ∷ (number ++ u) = (let z : c ∷ cs ≡ 35 ∷ 35 ∷ (number ++ u) = w ∙ ap (λ (xs : List ℕ). xs ++ u) e in cc) in
        absurd (true≢false (sym (ap (begins_with (35 ∷ [])) rest) ∙ n))

twice_bound : (c : ℕ) (cs : List ℕ) (s : Split is_digit cs) (good : Bool) (t u : List ℕ) → c ∷ 35 ∷ cs ≡ t ++ u → IsHashed good t → length t ≤ suc (suc (length s.front))
twice_bound c cs s good t u w i = go i.marks i.number i.hash i.digits i.is w
  where
    none : (number : List ℕ) → all is_digit number ≡ true → 35 ∷ cs ≡ number ++ u → length number ≤ 0
    none [] a w = omega arith
    none (d ∷ number) a w =
        let q : 35 ≡ d = cc in
        absurd (true≢false (sym (ap is_digit q ∙ (both_true (is_digit d) (all is_digit number) a).0)))

    go : (marks number : List ℕ) → IsHash marks → all is_digit number ≡ true → t ≡ marks ++ number → c ∷ 35 ∷ cs ≡ t ++ u → length t ≤ suc (suc (length s.front))
    go marks number one a e w =
        let rest : 35 ∷ cs ≡ number ++ u = (let z : c ∷ 35 ∷ cs ≡ 35 ∷ (number ++ u) = w ∙ ap (λ (xs : List ℕ). xs ++ u) e in cc) in
        let h = none number a rest in
        let l : length t ≡ suc (length number) = ap length e in
        omega (arith, h, l)
    go marks number two a e w =
        let rest : cs ≡ number ++ u = (let z : c ∷ 35 ∷ cs ≡ 35 ∷ 35 ∷ (number ++ u) = w ∙ ap (λ (xs : List ℕ). xs ++ u) e in cc) in
        let h = within_run is_digit cs s number u rest a in
        let l : length t ≡ suc (suc (length number)) = ap length e in
        omega (arith, h, l)

-- slots are no longer than so
abbrev SlotBound : List ℕ → ℕ → Type 0
SlotBound xs n = (good : Bool) (t u : List ℕ) → xs ≡ t ++ u → IsHashed good t → length t ≤ n

slots_bound : (xs : List ℕ) (n : ℕ) → SlotBound xs n → (q : Part) (t u : List ℕ) → xs ≡ t ++ u → can_be Hash q ≡ true → IsPart q t → length t ≤ n
slots_bound xs n b (Whole Kind.Slot) t u w e i = b true t u w i
slots_bound xs n b of.BadSlot t u w e i = b false t u w i
slots_bound xs n b _ t u w e i = absurd (true≢false (sym e))

-- the number behind the marks is judged
judged_by : (n : ℕ) (number rest : List ℕ) → suc n ≡ length number → (b : Bool) → (begins_with (48 ∷ []) (number ++ rest) || leb 9 n) ≡ b → is_slot_number number ≡ not b
judged_by n [] rest l b e = absurd (omega (arith, l))
judged_by n (d ∷ ds) rest l b e = go (d == 48) (leb (suc n) 9) refl (leb 9 n) refl e
  where
    go : (zero_first small : Bool) → leb (suc n) 9 ≡ small → (many : Bool) → leb 9 n ≡ many → ((elim zero_first [ true ↦ true | false ↦ false ]) || many) ≡ b →
        (not zero_first && leb (length (d ∷ ds)) 9) ≡ not b
    go true small es many em q = ap not q
    go false small es true em q =
        let h = leb-true 9 n em in
        ap (λ k. leb k 9) (sym l) ∙ lt-leb (suc n) 9 (omega (arith, h)) ∙ ap not q
    go false small es false em q =
        let h = leb-false 9 n em in
        ap (λ k. leb k 9) (sym l) ∙ le-leb (suc n) 9 (omega (arith, h)) ∙ ap not q

no_number : (number : List ℕ) → 0 ≡ length number → is_slot_number number ≡ true
no_number [] l = refl
no_number (d ∷ ds) l = absurd (omega (arith, l))

slot_longest : (c : ℕ) (cs marks ds : List ℕ) (s : Split is_digit ds) (good : Bool) (part : Part) → (c == 35) ≡ true → IsHash marks → c ∷ cs ≡ marks ++ ds → SlotBound (c ∷ cs) (length marks + length s.front) →
    (IsHashed good (marks ++ s.front) → IsPart part (marks ++ s.front)) → is_slot_number s.front ≡ good → IsLongest (c ∷ cs) part (marks ++ s.front) s.back
slot_longest c cs marks ds s good part e h w b as_part j =
    let l : length (marks ++ s.front) ≡ length marks + length s.front = length-append marks s.front in
    longest_by c cs Hash (hash_first c e) part (marks ++ s.front) s.back
    (w ∙ ap (λ (xs : List ℕ). marks ++ xs) s.whole ∙ sym (append_assoc marks s.front s.back))
    (as_part (record { marks = marks; number = s.front; is = refl; hash = h; digits = s.passes; judged = j }))
    (λ q t u v f i. subst (λ n. length t ≤ n) (sym l) (slots_bound (c ∷ cs) (length marks + length s.front) b q t u v f i))

slot_by : (c : ℕ) (cs marks ds : List ℕ) (s : Split is_digit ds) (n : ℕ) → n ≡ length s.front → (c == 35) ≡ true → IsHash marks → c ∷ cs ≡ marks ++ ds → SlotBound (c ∷ cs) (length marks + length s.front) →
    Stands (c ∷ cs) (slot_number (length marks) ds n)
slot_by c cs marks ds s zero l e h w b =
    stands (Whole Kind.Slot) (marks ++ s.front) s.back
    (slot_longest c cs marks ds s true (Whole Kind.Slot) e h w b (λ x. x) (no_number s.front l))
    (ap (Takes Kind.Slot) (let k = length-append marks s.front in omega (arith, k, l)))
slot_by c cs marks ds s (suc n) l e h w b = go (begins_with (48 ∷ []) ds || leb 9 n) refl
  where
    long : length marks + suc n ≡ length (marks ++ s.front)
    long = let k = length-append marks s.front in omega (arith, k, l)

    judged : (x : Bool) → (begins_with (48 ∷ []) ds || leb 9 n) ≡ x → is_slot_number s.front ≡ not x
    judged x g = judged_by n s.front s.back l x (ap (λ xs. begins_with (48 ∷ []) xs || leb 9 n) (sym s.whole) ∙ g)

    go : (x : Bool) → (begins_with (48 ∷ []) ds || leb 9 n) ≡ x → Stands (c ∷ cs) (elim x as (λ _. Scan) [ true ↦ Faults tok.BadByte 0 | false ↦ Takes Kind.Slot (length marks + suc n) ])
    go true g =
        stands of.BadSlot (marks ++ s.front) s.back (slot_longest c cs marks ds s false of.BadSlot e h w b (λ x. x) (judged true g)) refl
    go false g =
        stands (Whole Kind.Slot) (marks ++ s.front) s.back (slot_longest c cs marks ds s true (Whole Kind.Slot) e h w b (λ x. x) (judged false g))
        (ap (Takes Kind.Slot) long)

pub slot_stands : (c : ℕ) (cs : List ℕ) → (c == 35) ≡ true → Stands (c ∷ cs) (slot_scan cs)
slot_stands c cs e = go (begins_with (35 ∷ []) cs) refl
  where
    is : c ≡ 35
    is = eqb-true c 35 e

    twice : (ds : List ℕ) → begins_with (35 ∷ []) ds ≡ true → Stands (c ∷ ds) (slot_after 2 (drop 1 ds))
    twice [] g = absurd (true≢false (sym g))
    twice (d ∷ ds) g = at (d == 35) refl g
      where
        at : (b : Bool) → (d == 35) ≡ b → elim b [ true ↦ true | false ↦ false ] ≡ true → Stands (c ∷ d ∷ ds) (slot_after 2 ds)
        at true q h =
            let s = split is_digit ds in
            let k : d ≡ 35 = eqb-true d 35 q in
            let w : c ∷ d ∷ ds ≡ 35 ∷ 35 ∷ ds = ap₂ (λ (x y : ℕ). x ∷ y ∷ ds) is k in
            subst (λ n. Stands (c ∷ d ∷ ds) (slot_number 2 ds n)) (sym s.long)
            (slot_by c (d ∷ ds) (35 ∷ 35 ∷ []) ds s (length s.front) refl e two w
            (λ good t u v i. let r = twice_bound c ds s good t u (ap (λ (y : ℕ). c ∷ y ∷ ds) (sym k) ∙ v) i in omega (arith, r)))
        at false q h = absurd (true≢false (sym h))

    go : (b : Bool) → begins_with (35 ∷ []) cs ≡ b → Stands (c ∷ cs) (elim b as (λ _. Scan) [ true ↦ slot_after 2 (drop 1 cs) | false ↦ slot_after 1 cs ])
    go true g = twice cs g
    go false g =
        let s = split is_digit cs in
        subst (λ n. Stands (c ∷ cs) (slot_number 1 cs n)) (sym s.long)
        (slot_by c cs (35 ∷ []) cs s (length s.front) refl e one (ap (λ (x : ℕ). x ∷ cs) is)
        (λ good t u v i. let r = hashed_bound c cs s good t u g v i in omega (arith, r)))
