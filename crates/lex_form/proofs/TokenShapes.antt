-- What the tokens of a text are.
use Rattle.std.proofs.Common.{◌≡◌, ◌≢◌, ℕ, zero, suc, ◌+◌, ◌*◌, ◌-◌, ◌^◌, ◌<◌, ◌≤◌, Bool, true, false, ◌&&◌, ◌||◌, cond, List, [], ◌∷◌, ◌++◌, length, take, drop, get_or, Option, Some, None, refl, sym, ap, subst, ◌∙◌, arith, append_assoc, length-append, length-drop, take-append-drop, take-take, ap₂}
use Rattle.std.specs.Prelude.{◌==◌, ltb, leb, pred, codes}
use Rattle.std.proofs.lemmas.Bool.{leb-true, leb-false, eqb-true, ltb-true, lt-ltb}
use Rattle.std.proofs.lemmas.List.{drop-drop, drop-take, length-take-le, get_or-take}
use Rattle.std.specs.Str.{IsAscii}
use Rattle.std.specs.Prelude.{slice_index}
use Rattle.std.proofs.lemmas.Nat.{mul-le}
use Rattle.std.proofs.Math.Nat.{mul_assoc, mul_comm, pow-suc, pow-le-pow_right}
use Rattle.script_text.specs.Bytes.{is_digit, is_letter, begins_name, in_name, is_white, run, all, begins_with, number_after}
use Rattle.syntax.specs.Signs.{Sign, signs, sign_text}
use Rattle.syntax.specs.Leaves.{number_or_one}
use Rattle.syntax.specs.Tokens.{Kind, Token, LexFault, Lexed, Scan, Takes, Skips, Faults, operator_in, string_end, comment_end, name_length, blank_after, number_scan, slot_number, slot_after, slot_scan, name_scan, scan, and_token, lex_from, lex, token_text}
use Rattle.lex_form.specs.Shapes as sh
use Rattle.lex_form.specs.Shapes.{is_ascii, IsQuoted, Shape, IsToken, AreTokens}

-- ---- what stands at the front of a text

pub record Takes_well (xs : List ℕ) (kind : Kind) (n : ℕ) : Type 0 where
  pub some : 0 < n
  pub within : n ≤ length xs
  pub shape : Shape kind (take n xs)

abbrev GoodBy : List ℕ → Scan → Type 0
GoodBy xs (Takes kind n) = Takes_well xs kind n
GoodBy xs (Skips n) = 0 < n
GoodBy xs (Faults fault n) = Unit {0}

pub record Good (xs : List ℕ) (s : Scan) : Type 0 where
  pub good : GoodBy xs s

either : {xs : List ℕ} {x y : Scan} (b : Bool) → (b ≡ true → Good xs x) → (b ≡ false → Good xs y) → Good xs (elim b [ true ↦ x | false ↦ y ])
either true p q = p refl
either false p q = q refl

-- ---- runs

run_le : (p : ℕ → Bool) (xs : List ℕ) → run p xs ≤ length xs
run_le p [] = omega arith
run_le p (c ∷ cs) = go (p c) (run_le p cs)
  where
    go : (b : Bool) → run p cs ≤ length cs → elim b [ true ↦ suc (run p cs) | false ↦ zero ] ≤ suc (length cs)
    go true h = omega (arith, h)
    go false h = omega arith

run_step : (p q : ℕ → Bool) (c k : ℕ) (cs : List ℕ) (b : Bool) → (p c ≡ true → q c ≡ true) → (k ≤ run p cs → all q (take k cs) ≡ true) → p c ≡ b → suc k ≤ elim b [ true ↦ suc (run p cs) | false ↦ zero ] →
    (q c && all q (take k cs)) ≡ true
run_step p q c k cs true w h e g = rw (w e, h (omega (arith, g))) refl
run_step p q c k cs false w h e g = absurd (omega (arith, g))

-- no more than a run
run_all : (p q : ℕ → Bool) (xs : List ℕ) (k : ℕ) → ((c : ℕ) → p c ≡ true → q c ≡ true) → k ≤ run p xs → all q (take k xs) ≡ true
run_all p q xs zero w h = refl
run_all p q [] (suc k) w h = absurd (omega (arith, h))
run_all p q (c ∷ cs) (suc k) w h = run_step p q c k cs (p c) (w c) (λ g. run_all p q cs k w g) refl h

append_step : (q : ℕ → Bool) (xs ys : List ℕ) (b : Bool) → (all q xs ≡ true → all q (xs ++ ys) ≡ true) → (b && all q xs) ≡ true → (b && all q (xs ++ ys)) ≡ true
append_step q xs ys true h e = h e
append_step q xs ys false h e = cc

all_append : (q : ℕ → Bool) (xs ys : List ℕ) → all q xs ≡ true → all q ys ≡ true → all q (xs ++ ys) ≡ true
all_append q [] ys h g = g
all_append q (x ∷ xs) ys h g = append_step q xs ys (q x) (λ e. all_append q xs ys e g) h

take_more : (xs : List ℕ) (m n : ℕ) → take (m + n) xs ≡ take m xs ++ take n (drop m xs)
take_more xs m n = sym (take-append-drop m (take (m + n) xs)) ∙ ap₂ (λ (u v : List ℕ). u ++ v) (take-take m (m + n) xs (omega arith)) (drop-take m n xs)

-- bytes below 128
ascii_at : (c : ℕ) (cs : List ℕ) (b : Bool) → ltb c 128 ≡ b → (all is_ascii cs ≡ true → IsAscii cs) → (b && all is_ascii cs) ≡ true → (i : ℕ) → slice_index (c ∷ cs) i < 128
ascii_at c cs true e h g zero = ltb-true c 128 e
ascii_at c cs true e h g (suc i) = h g i
ascii_at c cs false e h g i = cc

ascii_all : (w : List ℕ) → all is_ascii w ≡ true → IsAscii w
ascii_all [] h = λ i. omega arith
ascii_all (c ∷ cs) h = ascii_at c cs (ltb c 128) refl (λ g. ascii_all cs g) h

ascii_name : (c : ℕ) → in_name c ≡ true → is_ascii c ≡ true
ascii_name c h = go (leb 97 c && leb c 122) (leb 65 c && leb c 90) (c == 36) (leb 48 c && leb c 57) refl refl refl refl h
  where
    below : (a b : ℕ) → (leb a c && leb c b) ≡ true → b < 128 → ltb c 128 ≡ true
    below a b e l = two (leb a c) (leb c b) refl e
      where
        two : (u v : Bool) → leb c b ≡ v → (u && v) ≡ true → ltb c 128 ≡ true
        two true true g h = let k : c ≤ b = leb-true c b g in lt-ltb c 128 (omega (arith, k, l))
        two true false g h = cc
        two false v g h = cc

    go : (s t u v : Bool) → (leb 97 c && leb c 122) ≡ s → (leb 65 c && leb c 90) ≡ t → (c == 36) ≡ u → (leb 48 c && leb c 57) ≡ v → ((((s || t) || u) || v) ≡ true) → ltb c 128 ≡ true
    go true t u v p q r s h = below 97 122 p (omega arith)
    go false true u v p q r s h = below 65 90 q (omega arith)
    go false false true v p q r s h = lt-ltb c 128 (let k = eqb-true c 36 r in omega (arith, k))
    go false false false true p q r s h = below 48 57 s (omega arith)
    go false false false false p q r s h = cc

ascii_mark : (c : ℕ) → (c == 95) ≡ true → is_ascii c ≡ true
ascii_mark c h = lt-ltb c 128 (let k = eqb-true c 95 h in omega (arith, k))

name_in : (c : ℕ) → begins_name c ≡ true → in_name c ≡ true
name_in c h = rw h refl

-- the name at the front is a run
name_run : (xs : List ℕ) → name_length xs ≤ run in_name xs
name_run [] = omega arith
name_run (c ∷ cs) = go (begins_name c) refl
  where
    go : (b : Bool) → begins_name c ≡ b → elim b [ true ↦ suc (run in_name cs) | false ↦ zero ] ≤ elim (b || is_digit c) [ true ↦ suc (run in_name cs) | false ↦ zero ]
    go true e = omega arith
    go false e = omega arith

marks_le : (a : ℕ) → cond (leb a 3) a 3 ≤ a
marks_le a = go (leb a 3) refl
  where
    go : (b : Bool) → leb a 3 ≡ b → cond b a 3 ≤ a
    go true e = omega arith
    go false e = let k = leb-false a 3 e in omega (arith, k)

marks_some : (a : ℕ) → 0 < a → 0 < cond (leb a 3) a 3
marks_some a h = go (leb a 3)
  where
    go : (b : Bool) → 0 < cond b a 3
    go true = omega (arith, h)
    go false = omega arith

-- ---- blanks and names

mark_alone : (xs : List ℕ) (k : ℕ) → 0 < run (λ c. c == 95) xs → run in_name (take k xs) ≡ 0
mark_alone [] zero h = refl
mark_alone [] (suc k) h = refl
mark_alone (c ∷ cs) zero h = refl
mark_alone (c ∷ cs) (suc k) h = go (c == 95) refl h
  where
    go : (b : Bool) → (c == 95) ≡ b → 0 < elim b [ true ↦ suc (run (λ d. d == 95) cs) | false ↦ zero ] → run in_name (take (suc k) (c ∷ cs)) ≡ 0
    go true e g = let q : c ≡ 95 = eqb-true c 95 e in rw q refl
    go false e g = absurd (omega (arith, g))

-- of one byte, where no name stands in front
alone_by : (xs : List ℕ) (n k : ℕ) → 0 < run (λ c. c == 95) (drop n xs) → n < length (take k xs) → length (take k xs) ≡ 1 → run in_name (take k xs) ≡ 0
alone_by xs zero k g l e = mark_alone xs k g
alone_by xs (suc n) k g l e = absurd (omega (arith, l, e))

-- a blank behind the first n bytes of a name
blank_good : (xs : List ℕ) (n : ℕ) → n ≤ run in_name xs → 0 < run (λ c. c == 95) (drop n xs) → Good xs (blank_after n (drop n xs))
blank_good xs n h g =
    let rest = drop n xs in
    let a = run (λ c. c == 95) rest in
    let marks = cond (leb a 3) a 3 in
    let m = name_length (drop marks rest) in
    let le = marks_le a in
    let mark_in = run_le (λ c. c == 95) rest in
    let name_le = name_run (drop marks rest) in
    let name_within = run_le in_name (drop marks rest) in
    let first_within = run_le in_name xs in
    let l1 = length-drop {A = ℕ} n xs in
    let l2 = length-drop {A = ℕ} marks rest in
    let s = marks_some a g in
    let inside : n + marks + m ≤ length xs = omega (arith, le, mark_in, name_le, name_within, first_within, l1, l2, h) in
    let len : length (take (n + marks + m) xs) ≡ n + marks + m = length-take-le (n + marks + m) xs inside in
    record {
      good = record {
        some = omega (arith, s);
        within = inside;
        shape = record {
          ascii = ascii_all (take (n + marks + m) xs)
              (rw (take_more xs (n + marks) m, take_more xs n marks)
              (all_append is_ascii (take n xs ++ take marks rest) (take m (drop (n + marks) xs))
              (all_append is_ascii (take n xs) (take marks rest) (run_all in_name is_ascii xs n ascii_name h) (run_all (λ c. c == 95) is_ascii rest marks ascii_mark le))
              (subst (λ ys. all is_ascii (take m ys) ≡ true) (drop-drop marks n xs) (run_all in_name is_ascii (drop marks rest) m ascii_name name_le))));
          marked = alone_by xs n (n + marks + m) g (omega (arith, len, s));
        };
      };
    }

begins_mark : (xs : List ℕ) → begins_with (95 ∷ []) xs ≡ true → 0 < run (λ c. c == 95) xs
begins_mark [] e = cc
begins_mark (c ∷ cs) e = go (c == 95) e
  where
    go : (b : Bool) → elim b [ true ↦ true | false ↦ false ] ≡ true → 0 < elim b [ true ↦ suc (run (λ d. d == 95) cs) | false ↦ zero ]
    go true h = omega arith
    go false h = cc

name_good : (xs : List ℕ) → 0 < name_length xs → Good xs (name_scan xs)
name_good xs s =
    let n = name_length xs in
    let h = name_run xs in
    let w = run_le in_name xs in
    either (begins_with (95 ∷ []) (drop n xs))
    (λ e. blank_good xs n h (begins_mark (drop n xs) e))
    (λ e. record { good = record { some = s; within = omega (arith, h, w); shape = ascii_all (take n xs) (run_all in_name is_ascii xs n ascii_name h) } })

number_good : (xs : List ℕ) → 0 < run is_digit xs → Good xs (number_scan xs)
number_good xs s =
    let n = run is_digit xs in
    let w = run_le is_digit xs in
    either (ltb (number_after 0 (take n xs)) (2 ^ 127))
    (λ e. record { good = record { some = s; within = w; shape = ltb-true (number_after 0 (take n xs)) (2 ^ 127) e } })
    (λ e. record { good = tt })

-- ---- strings

abbrev EndsBy : List ℕ → ℕ → Scan → Type 0
EndsBy cs n (Takes kind m) = (j : ℕ) × (m ≡ n + suc j) × (j < length cs) × (get_or cs j 0 ≡ 34) × (kind ≡ Kind.Str)
EndsBy cs n (Skips m) = ⊥
EndsBy cs n (Faults fault m) = Unit {0}

record Ends (cs : List ℕ) (n : ℕ) (s : Scan) : Type 0 where
  ends : EndsBy cs n s

ends_either : {cs : List ℕ} {n : ℕ} {x y : Scan} (b : Bool) → (b ≡ true → Ends cs n x) → (b ≡ false → Ends cs n y) → Ends cs n (elim b [ true ↦ x | false ↦ y ])
ends_either true p q = p refl
ends_either false p q = q refl

ends_later : (c : ℕ) (cs : List ℕ) (n : ℕ) (s : Scan) → EndsBy cs (suc n) s → EndsBy (c ∷ cs) n s
ends_later c cs n (Takes kind m) (j, e, l, g, k) = (suc j, omega (arith, e), omega (arith, l), g, k)
ends_later c cs n (Skips m) h = h
ends_later c cs n (Faults fault m) h = h

later : (c : ℕ) (cs : List ℕ) (n : ℕ) (s : Scan) → Ends cs (suc n) s → Ends (c ∷ cs) n s
later c cs n s h = record { ends = ends_later c cs n s h.ends }

string_ends : (escaped : Bool) (n : ℕ) (cs : List ℕ) → Ends cs n (string_end escaped n cs)
string_ends true n [] = record { ends = tt }
string_ends false n [] = record { ends = tt }
string_ends true n (c ∷ cs) =
    ends_either ((c == 34) || ((c == 92) || ((c == 110) || (c == 116)))) (λ e. later c cs n (string_end false (suc n) cs) (string_ends false (suc n) cs)) (λ e. record { ends = tt })
string_ends false n (c ∷ cs) =
    ends_either (c == 34) (λ e. record { ends = (0, omega arith, omega arith, eqb-true c 34 e, refl) })
    (λ e. ends_either (c == 92) (λ g. later c cs n (string_end true (suc n) cs) (string_ends true (suc n) cs)) (λ g. later c cs n (string_end false (suc n) cs) (string_ends false (suc n) cs)))

quoted : (c : ℕ) (cs : List ℕ) (j m : ℕ) → c ≡ 34 → m ≡ 1 + suc j → j < length cs → get_or cs j 0 ≡ 34 → IsQuoted (take m (c ∷ cs))
quoted c cs j m e q l g =
    let len : length (take m (c ∷ cs)) ≡ m = length-take-le m (c ∷ cs) (omega (arith, q, l)) in
    record {
      first = get_or-take m (c ∷ cs) 0 0 (omega (arith, q)) ∙ e;
      last = ap (λ k. get_or (take m (c ∷ cs)) k 0) (omega (arith, len, q)) ∙ get_or-take m (c ∷ cs) (suc j) 0 (omega (arith, q)) ∙ g;
    }

string_by : (c : ℕ) (cs : List ℕ) (s : Scan) → c ≡ 34 → EndsBy cs 1 s → GoodBy (c ∷ cs) s
string_by c cs (Takes kind m) e (j, q, l, g, k) =
    subst (λ (v : Kind). Takes_well (c ∷ cs) v m) (sym k) (record { some = omega (arith, q); within = omega (arith, q, l); shape = quoted c cs j m e q l g })
string_by c cs (Skips m) e h = absurd h
string_by c cs (Faults fault m) e h = tt

string_good : (c : ℕ) (cs : List ℕ) → c ≡ 34 → Good (c ∷ cs) (string_end false 1 cs)
string_good c cs e = record { good = string_by c cs (string_end false 1 cs) e (string_ends false 1 cs).ends }

-- ---- comments

abbrev SkipsOrFaults : Scan → Type 0
SkipsOrFaults (Takes kind m) = ⊥
SkipsOrFaults (Skips m) = 0 < m
SkipsOrFaults (Faults fault m) = Unit {0}

record Passes (s : Scan) : Type 0 where
  passes : SkipsOrFaults s

passes_either : {x y : Scan} (b : Bool) → Passes x → Passes y → Passes (elim b [ true ↦ x | false ↦ y ])
passes_either true p q = p
passes_either false p q = q

comment_passes : (depth before n : ℕ) (cs : List ℕ) → 0 < n → Passes (comment_end depth before n cs)
comment_passes zero before n cs h = record { passes = h }
comment_passes (suc depth) before n [] h = record { passes = tt }
comment_passes (suc depth) before n (c ∷ cs) h =
    passes_either ((before == 40) && (c == 42)) (comment_passes (suc (suc depth)) 0 (suc n) cs (omega arith))
    (passes_either ((before == 42) && (c == 41)) (comment_passes depth 0 (suc n) cs (omega arith)) (comment_passes (suc depth) c (suc n) cs (omega arith)))

passes_by : (xs : List ℕ) (s : Scan) → SkipsOrFaults s → GoodBy xs s
passes_by xs (Takes kind m) h = absurd h
passes_by xs (Skips m) h = h
passes_by xs (Faults fault m) h = h

passes_good : (xs : List ℕ) (s : Scan) → Passes s → Good xs s
passes_good xs s h = record { good = passes_by xs s h.passes }

-- ---- operators

begins_within : (t cs : List ℕ) → begins_with t cs ≡ true → length t ≤ length cs
begins_within [] cs e = omega arith
begins_within (d ∷ ds) [] e = cc
begins_within (d ∷ ds) (c ∷ cs) e = go (c == d) (begins_within ds cs) e
  where
    go : (b : Bool) → (begins_with ds cs ≡ true → length ds ≤ length cs) → elim b [ true ↦ begins_with ds cs | false ↦ false ] ≡ true → length (d ∷ ds) ≤ length (c ∷ cs)
    go true rest e = let w = rest e in omega (arith, w)
    go false rest e = cc

sign_some : (s : Sign) → 0 < length (sign_text s)
sign_some Sign.Query = omega arith
sign_some Sign.At = omega arith
sign_some Sign.SlashAt = omega arith
sign_some Sign.AtAt = omega arith
sign_some Sign.Caret = omega arith
sign_some Sign.Slash = omega arith
sign_some Sign.Star = omega arith
sign_some Sign.Plus = omega arith
sign_some Sign.Minus = omega arith
sign_some Sign.EqualEqual = omega arith
sign_some Sign.BangEqual = omega arith
sign_some Sign.Less = omega arith
sign_some Sign.LessEqual = omega arith
sign_some Sign.Greater = omega arith
sign_some Sign.GreaterEqual = omega arith
sign_some Sign.SameSign = omega arith
sign_some Sign.UnsameSign = omega arith
sign_some Sign.Bang = omega arith
sign_some Sign.AndAnd = omega arith
sign_some Sign.BarBar = omega arith
sign_some Sign.Bar = omega arith
sign_some Sign.Colon = omega arith
sign_some Sign.SlashSemicolon = omega arith
sign_some Sign.Arrow = omega arith
sign_some Sign.ColonGreater = omega arith
sign_some Sign.SlashDot = omega arith
sign_some Sign.SlashSlashDot = omega arith
sign_some Sign.PlusEqual = omega arith
sign_some Sign.MinusEqual = omega arith
sign_some Sign.StarEqual = omega arith
sign_some Sign.Ampersand = omega arith
sign_some Sign.SlashSlash = omega arith
sign_some Sign.Assign = omega arith
sign_some Sign.ColonEqual = omega arith
sign_some Sign.CaretEqual = omega arith
sign_some Sign.CaretColonEqual = omega arith
sign_some Sign.AssignDot = omega arith
sign_some Sign.SlashColon = omega arith
sign_some Sign.Semicolon = omega arith
sign_some Sign.PlusPlus = omega arith
sign_some Sign.MinusMinus = omega arith
sign_some Sign.OpenParen = omega arith
sign_some Sign.CloseParen = omega arith
sign_some Sign.OpenBracket = omega arith
sign_some Sign.CloseBracket = omega arith
sign_some Sign.OpenBrace = omega arith
sign_some Sign.CloseBrace = omega arith
sign_some Sign.Comma = omega arith

operator_good : (ss : List Sign) (xs : List ℕ) → Good xs (operator_in ss xs)
operator_good [] xs = record { good = tt }
operator_good (s ∷ ss) xs =
    either (begins_with (sign_text s) xs) (λ e. record { good = record { some = sign_some s; within = begins_within (sign_text s) xs e; shape = tt } }) (λ e. operator_good ss xs)

-- ---- slots

digit_low : (d : ℕ) → is_digit d ≡ true → d ≤ 57
digit_low d e = two (leb 48 d) (leb d 57) refl e
  where
    two : (u w : Bool) → leb d 57 ≡ w → (u && w) ≡ true → d ≤ 57
    two true true g h = leb-true d 57 g
    two true false g h = cc
    two false w g h = cc

grown : (d v p q : ℕ) → d ≤ 57 → p < ((v * 10 + (d - 48)) + 1) * q → p < (v + 1) * (10 * q)
grown d v p q l g =
    let a : (v * 10 + (d - 48)) + 1 ≤ (v + 1) * 10 = omega (arith, l) in
    let b = mul-le ((v * 10 + (d - 48)) + 1) q ((v + 1) * 10) q a (omega arith) in
    let c : (v + 1) * 10 * q ≡ (v + 1) * (10 * q) = mul_assoc (v + 1) 10 q in
    omega (arith, g, b, c)

digit_step : (d v : ℕ) (ds : List ℕ) (b : Bool) → is_digit d ≡ b → (all is_digit ds ≡ true → number_after (v * 10 + (d - 48)) ds < ((v * 10 + (d - 48)) + 1) * 10 ^ length ds) →
    (b && all is_digit ds) ≡ true → number_after (v * 10 + (d - 48)) ds < (v + 1) * (10 * 10 ^ length ds)
digit_step d v ds true e h g = grown d v (number_after (v * 10 + (d - 48)) ds) (10 ^ length ds) (digit_low d e) (h g)
digit_step d v ds false e h g = cc

ten_more : (n : ℕ) → 10 ^ suc n ≡ 10 * 10 ^ n
ten_more n = pow-suc 10 n ∙ mul_comm (10 ^ n) 10

digits_bound : (ds : List ℕ) (v : ℕ) → all is_digit ds ≡ true → number_after v ds < (v + 1) * 10 ^ length ds
digits_bound [] v h = omega arith
digits_bound (d ∷ ds) v h = rw (ten_more (length ds)) (digit_step d v ds (is_digit d) refl (λ g. digits_bound ds (v * 10 + (d - 48)) g) h)

-- the digits at the front of a text that are a number of at most nine digits
nine_low : (ds : List ℕ) → all is_digit ds ≡ true → length ds ≤ 9 → number_after 0 ds < 2 ^ 127
nine_low ds h l =
    let b = digits_bound ds 0 h in
    let c : 10 ^ length ds ≤ 10 ^ 9 = pow-le-pow_right {n = 10} (omega arith) l in
    let e : (0 + 1) * 10 ^ length ds ≡ 10 ^ length ds = omega arith in
    omega (arith, b, c, e)

slot_low : (ds : List ℕ) → all is_digit ds ≡ true → length ds ≤ 9 → number_or_one ds < 2 ^ 127
slot_low [] h l = omega arith
slot_low (d ∷ ds) h l = nine_low (d ∷ ds) h l

digit_self : (c : ℕ) → is_digit c ≡ true → is_digit c ≡ true
digit_self c h = h

-- a slot of one sign: the next byte is no second one
one_slot : (c : ℕ) (cs : List ℕ) (n : ℕ) → c ≡ 35 → begins_with (35 ∷ []) cs ≡ false → n ≤ run is_digit cs → n ≤ 9 → sh.slot_number (take (suc n) (c ∷ cs)) < 2 ^ 127
one_slot c [] zero e g h l = rw e (omega arith)
one_slot c [] (suc n) e g h l = absurd (omega (arith, h))
one_slot c (d ∷ ds) zero e g h l = rw e (omega arith)
one_slot c (d ∷ ds) (suc n) e g h l = rw e (go (d == 35) refl g)
  where
    digits : all is_digit (take (suc n) (d ∷ ds)) ≡ true
    digits = run_all is_digit is_digit (d ∷ ds) (suc n) digit_self h

    go : (b : Bool) → (d == 35) ≡ b → elim b [ true ↦ true | false ↦ false ] ≡ false →
        (elim (elim b as (λ x. Bool) [ true ↦ true | false ↦ false ]) as (λ x. ℕ) [ true ↦ number_or_one (take n ds) | false ↦ number_or_one (d ∷ take n ds) ]) < 2 ^ 127
    go true q k = cc
    go false q k = slot_low (d ∷ take n ds) digits (let t = length-take-le (suc n) (d ∷ ds) (let r = run_le is_digit (d ∷ ds) in omega (arith, h, r)) in omega (arith, t, l))

two_slot : (c d : ℕ) (cs : List ℕ) (n : ℕ) → c ≡ 35 → d ≡ 35 → n ≤ run is_digit cs → n ≤ 9 → sh.slot_number (take (suc (suc n)) (c ∷ d ∷ cs)) < 2 ^ 127
two_slot c d cs n e g h l =
    rw (e, g) (slot_low (take n cs) (run_all is_digit is_digit cs n digit_self h) (let r = run_le is_digit cs in let t = length-take-le n cs (omega (arith, h, r)) in omega (arith, t, l)))

-- by the number of digits
slot_by : (xs : List ℕ) (marks : ℕ) (cs : List ℕ) (n : ℕ) → 0 < marks → marks + length cs ≡ length xs → n ≡ run is_digit cs → (n ≤ 9 → sh.slot_number (take (marks + n) xs) < 2 ^ 127) → Good xs (slot_number marks cs n)
slot_by xs marks cs zero p w e h =
    record { good = record { some = p; within = omega (arith, w); shape = let q : marks + 0 ≡ marks = omega arith in subst (λ (k : ℕ). sh.slot_number (take k xs) < 2 ^ 127) q (h (omega arith)) } }
slot_by xs marks cs (suc n) p w e h =
    either (begins_with (48 ∷ []) cs || leb 9 n) (λ g. record { good = tt })
    (λ g. record { good = record { some = omega arith; within = let r = run_le is_digit cs in omega (arith, w, e, r); shape = h (nine (begins_with (48 ∷ []) cs) (leb 9 n) refl g) } })
  where
    nine : (a b : Bool) → leb 9 n ≡ b → (a || b) ≡ false → suc n ≤ 9
    nine true b q k = cc
    nine false true q k = cc
    nine false false q k = let z = leb-false 9 n q in omega (arith, z)

slot_good : (c : ℕ) (cs : List ℕ) → c ≡ 35 → Good (c ∷ cs) (slot_scan cs)
slot_good c cs e =
    either (begins_with (35 ∷ []) cs) (λ g. two cs g)
    (λ g. slot_by (c ∷ cs) 1 cs (run is_digit cs) (omega arith) (omega arith) refl (λ l. let q : suc (run is_digit cs) ≡ 1 + run is_digit cs = omega arith in subst (λ (k : ℕ). sh.slot_number (take k (c ∷ cs)) < 2 ^ 127) q (one_slot c cs (run is_digit cs) e g (omega arith) l)))
  where
    two : (ds : List ℕ) → begins_with (35 ∷ []) ds ≡ true → Good (c ∷ ds) (slot_after 2 (drop 1 ds))
    two [] g = cc
    two (d ∷ ds) g = slot_by (c ∷ d ∷ ds) 2 ds (run is_digit ds) (omega arith) (omega arith) refl (λ l. let q : suc (suc (run is_digit ds)) ≡ 2 + run is_digit ds = omega arith in subst (λ (k : ℕ). sh.slot_number (take k (c ∷ d ∷ ds)) < 2 ^ 127) q (two_slot c d ds (run is_digit ds) e (first (d == 35) refl g) (omega arith) l))
      where
        first : (b : Bool) → (d == 35) ≡ b → elim b [ true ↦ true | false ↦ false ] ≡ true → d ≡ 35
        first true q k = eqb-true d 35 q
        first false q k = cc

-- ---- any token

digit_some : (c : ℕ) (cs : List ℕ) → is_digit c ≡ true → 0 < run is_digit (c ∷ cs)
digit_some c cs e = rw (run, e) (omega arith)

name_some : (c : ℕ) (cs : List ℕ) → begins_name c ≡ true → 0 < name_length (c ∷ cs)
name_some c cs e = rw (name_length, e) (omega arith)

mark_some : (c : ℕ) (cs : List ℕ) → (c == 95) ≡ true → 0 < run (λ d. d == 95) (c ∷ cs)
mark_some c cs e = rw (run, e) (omega arith)

scan_good : (c : ℕ) (cs : List ℕ) → Good (c ∷ cs) (scan c cs)
scan_good c cs =
    either (is_white c) (λ e. record { good = omega arith })
    (λ e1. either (begins_with (codes "(*") (c ∷ cs)) (λ e. passes_good (c ∷ cs) (comment_end 1 0 2 (drop 1 cs)) (comment_passes 1 0 2 (drop 1 cs) (omega arith)))
    (λ e2. either (is_digit c) (λ e. number_good (c ∷ cs) (digit_some c cs e))
    (λ e3. either (begins_name c) (λ e. name_good (c ∷ cs) (name_some c cs e))
    (λ e4. either (c == 95) (λ e. blank_good (c ∷ cs) 0 (omega arith) (mark_some c cs e))
    (λ e5. either (c == 34) (λ e. string_good c cs (eqb-true c 34 e))
    (λ e6. either (c == 35) (λ e. slot_good c cs (eqb-true c 35 e)) (λ e7. operator_good signs (c ∷ cs))))))))

-- ---- all tokens

drop_length : (text : List ℕ) (at : ℕ) (c : ℕ) (cs : List ℕ) → drop at text ≡ c ∷ cs → at + suc (length cs) ≡ length text
drop_length text zero c cs e = let q : length text ≡ suc (length cs) = ap length e in omega (arith, q)
drop_length [] (suc at) c cs e = cc
drop_length (x ∷ xs) (suc at) c cs e = let h = drop_length xs at c cs e in omega (arith, h)

drop_next : (text : List ℕ) (at : ℕ) (c : ℕ) (cs : List ℕ) → drop at text ≡ c ∷ cs → drop (suc at) text ≡ cs
drop_next text zero c cs e = rw e refl
drop_next [] (suc at) c cs e = cc
drop_next (x ∷ xs) (suc at) c cs e = drop_next xs at c cs e

record Tokens_good (text : List ℕ) (at : ℕ) (l : Lexed) : Type 0 where
  tokens : AreTokens text at l.tokens

by_scan : (text : List ℕ) (before at : ℕ) (c : ℕ) (cs : List ℕ) (s : Scan) → before ≤ at → drop at text ≡ c ∷ cs → GoodBy (c ∷ cs) s →
    ((b skip : ℕ) → b ≤ suc at + skip → Tokens_good text b (lex_from (suc at) skip cs)) →
    Tokens_good text before (elim s [
      | Takes kind n ↦ and_token (record { kind = kind; from = at; to = at + n }) (lex_from (suc at) (pred n) cs)
      | Skips n ↦ lex_from (suc at) (pred n) cs
      | Faults fault n ↦ record { tokens = []; fault = Some (fault (at + n)) }
    ])
by_scan text before at c cs (Takes kind n) h d g next =
    record {
      tokens = (
        record {
          after = h;
          some = omega (arith, g.some);
          within = let l = drop_length text at c cs d in omega (arith, g.within, l);
          shape = subst (λ (w : List ℕ). Shape kind w) (word (at + n - at) (omega arith)) g.shape;
        },
        (next (at + n) (pred n) (pred_le n g.some)).tokens,
      );
    }
  where
    word : (m : ℕ) → m ≡ n → take n (c ∷ cs) ≡ take m (drop at text)
    word m e = rw (e, d) refl

    pred_le : (m : ℕ) → 0 < m → at + m ≤ suc at + pred m
    pred_le zero q = absurd (omega (arith, q))
    pred_le (suc m) q = omega arith
by_scan text before at c cs (Skips n) h d g next = next before (pred n) (omega (arith, h))
by_scan text before at c cs (Faults fault n) h d g next = record { tokens = tt }

lexed_from : (text : List ℕ) (before at skip : ℕ) (cs : List ℕ) → before ≤ at + skip → drop at text ≡ cs → Tokens_good text before (lex_from at skip cs)
lexed_from text before at skip [] h d = record { tokens = tt }
lexed_from text before at (suc skip) (c ∷ cs) h d = lexed_from text before (suc at) skip cs (omega (arith, h)) (drop_next text at c cs d)
lexed_from text before at zero (c ∷ cs) h d =
    by_scan text before at c cs (scan c cs) (omega (arith, h)) d (scan_good c cs).good (λ b skip g. lexed_from text b (suc at) skip cs g (drop_next text at c cs d))

pub tokens_good : (text : List ℕ) → AreTokens text 0 (lex text).tokens
tokens_good text = (lexed_from text 0 0 0 text (omega arith) refl).tokens
