-- Runs at the front of a text, and what may begin with a byte.
use Rattle.std.proofs.Common.{◌≡◌, refl, sym, ap, ap₂, ◌∙◌, ℕ, zero, suc, ◌<◌, ◌≤◌, ◌⊎◌, inl, inr, ⊎_elim, Bool, true, false, List, [], ◌∷◌, ◌++◌, length, take, drop, true≢false, arith, ne_eqb, eqb-true, leb-true, le-leb}
use Rattle.std.specs.Prelude.{◌==◌, ◌&&◌, ◌||◌, leb}
use Rattle.std.proofs.lemmas.Bool.{lt-leb}
use Rattle.script_text.specs.Bytes.{is_letter, is_digit, begins_name, in_name, is_name, is_white, run, all}
use Rattle.syntax.specs.Signs.{Sign, sign_text}
use Rattle.syntax.specs.Tokens.{Kind}
use Rattle.laws_tokens.specs.Texts.{Part, Whole, IsPart, IsOptional, IsMarked, IsHash, one, two}
use Rattle.laws_tokens.specs.Texts as of
use Rattle.laws_tokens.specs.Longest.{IsLongest}

pub both_true : (a b : Bool) → (a && b) ≡ true → (a ≡ true) × (b ≡ true)
both_true true b e = (refl, e)
both_true false b e = absurd (true≢false (sym e))

pub either_true : (a b : Bool) → (a || b) ≡ true → (a ≡ true) ⊎ (b ≡ true)
either_true true b e = inl refl
either_true false b e = inr e

pub taken : (xs ys : List ℕ) → take (length xs) (xs ++ ys) ≡ xs
taken [] ys = refl
taken (x ∷ xs) ys = ap (λ (zs : List ℕ). x ∷ zs) (taken xs ys)

pub dropped : (xs ys : List ℕ) → drop (length xs) (xs ++ ys) ≡ ys
dropped [] ys = refl
dropped (x ∷ xs) ys = dropped xs ys

pub first_byte : (c d : ℕ) (cs ds : List ℕ) → c ∷ cs ≡ d ∷ ds → c ≡ d
first_byte c d cs ds e = cc

pub later : (c d : ℕ) (cs ds : List ℕ) → c ∷ cs ≡ d ∷ ds → cs ≡ ds
later c d cs ds e = cc

pub all_middle : (test : ℕ → Bool) (p v : List ℕ) (m : ℕ) → all test (p ++ (m ∷ v)) ≡ true → test m ≡ true
all_middle test [] v m a = (both_true (test m) (all test v) a).0
all_middle test (c ∷ p) v m a = all_middle test p v m (both_true (test c) (all test (p ++ (m ∷ v))) a).1

-- ---- runs

abbrev pub Stops : (ℕ → Bool) → List ℕ → Type 0
Stops test [] = Unit {0}
Stops test (c ∷ cs) = test c ≡ false

pub record Split (test : ℕ → Bool) (xs : List ℕ) : Type 0 where
  pub front : List ℕ
  pub back : List ℕ
  pub whole : xs ≡ front ++ back
  pub passes : all test front ≡ true
  pub stops : Stops test back
  pub long : run test xs ≡ length front

pub split : (test : ℕ → Bool) (xs : List ℕ) → Split test xs
split test [] = record { front = []; back = []; whole = refl; passes = refl; stops = tt; long = refl }
split test (c ∷ cs) = go (test c) refl (split test cs)
  where
    go : (b : Bool) → test c ≡ b → Split test cs → Split test (c ∷ cs)
    go true e s = record {
      front = c ∷ s.front;
      back = s.back;
      whole = ap (λ (xs : List ℕ). c ∷ xs) s.whole;
      passes = ap₂ (λ p q. p && q) e s.passes;
      stops = s.stops;
      long = ap (λ b. elim b [ true ↦ suc (run test cs) | false ↦ zero ]) e ∙ ap suc s.long;
    }
    go false e s = record {
      front = [];
      back = c ∷ cs;
      whole = refl;
      passes = refl;
      stops = e;
      long = ap (λ b. elim b [ true ↦ suc (run test cs) | false ↦ zero ]) e;
    }

pub run_front : (test : ℕ → Bool) (t u : List ℕ) → all test t ≡ true → length t ≤ run test (t ++ u)
run_front test [] u a = omega arith
run_front test (c ∷ t) u a =
    let both = both_true (test c) (all test t) a in
    let h = run_front test t u both.1 in
    let q : run test (c ∷ (t ++ u)) ≡ suc (run test (t ++ u)) = ap (λ b. elim b [ true ↦ suc (run test (t ++ u)) | false ↦ zero ]) both.0 in
    omega (arith, h, q)

-- a front that passes is no longer than the run
pub within_run : (test : ℕ → Bool) (xs : List ℕ) (s : Split test xs) (t u : List ℕ) → xs ≡ t ++ u → all test t ≡ true → length t ≤ length s.front
within_run test xs s t u e a =
    let h = run_front test t u a in
    let q : run test xs ≡ run test (t ++ u) = ap (run test) e in
    omega (arith, h, q, s.long)

-- ---- the kinds of first bytes

pub data First : Type 0 where
  White Digit Letter Mark Quote Hash Other : First

abbrev pub first_by : Bool → Bool → Bool → Bool → Bool → Bool → First
first_by true digit name mark quote hash = White
first_by false true name mark quote hash = Digit
first_by false false true mark quote hash = Letter
first_by false false false true quote hash = Mark
first_by false false false false true hash = Quote
first_by false false false false false true = Hash
first_by false false false false false false = Other

abbrev pub first : ℕ → First
first c = first_by (is_white c) (is_digit c) (begins_name c) (c == 95) (c == 34) (c == 35)

abbrev pub can_be : First → Part → Bool
can_be White of.Space = true
can_be Digit (Whole Kind.Number) = true
can_be Digit of.Wide = true
can_be Letter (Whole Kind.Name) = true
can_be Letter (Whole Kind.Blank) = true
can_be Mark (Whole Kind.Blank) = true
can_be Quote (Whole Kind.Str) = true
can_be Quote of.OpenString = true
can_be Quote of.BadEscape = true
can_be Hash (Whole Kind.Slot) = true
can_be Hash of.BadSlot = true
can_be Other (Whole Kind.Operator) = true
can_be Other of.Comment = true
can_be Other of.OpenComment = true
can_be _ _ = false

pub white_first : (c : ℕ) → is_white c ≡ true → first c ≡ White
white_first c e = ap (λ b. first_by b (is_digit c) (begins_name c) (c == 95) (c == 34) (c == 35)) e

not_white : (c : ℕ) → 33 ≤ c → is_white c ≡ false
not_white c h =
    let a : (c == 32) ≡ false = ne_eqb c 32 (omega arith) in
    let b : (c == 9) ≡ false = ne_eqb c 9 (omega arith) in
    let d : (c == 13) ≡ false = ne_eqb c 13 (omega arith) in
    let e : (c == 10) ≡ false = ne_eqb c 10 (omega arith) in
    rw (a, b, d, e) refl

digit_at : (c : ℕ) → is_digit c ≡ true → 48 ≤ c
digit_at c e = leb-true 48 c (both_true (leb 48 c) (leb c 57) e).0

letter_at : (c : ℕ) → is_letter c ≡ true → 65 ≤ c
letter_at c e =
    ⊎_elim (λ (p : (leb 97 c && leb c 122) ≡ true). let h = leb-true 97 c (both_true (leb 97 c) (leb c 122) p).0 in omega (arith, h))
    (λ (p : (leb 65 c && leb c 90) ≡ true). leb-true 65 c (both_true (leb 65 c) (leb c 90) p).0)
    (either_true (leb 97 c && leb c 122) (leb 65 c && leb c 90) e)

high_digit : (c : ℕ) → 65 ≤ c → is_digit c ≡ false
high_digit c h =
    let a : leb 48 c ≡ true = le-leb 48 c (omega arith) in
    let b : leb c 57 ≡ false = lt-leb c 57 (omega arith) in
    rw (a, b) refl

pub digit_first : (c : ℕ) → is_digit c ≡ true → first c ≡ Digit
digit_first c e =
    let h = digit_at c e in
    ap₂ (λ w d. first_by w d (begins_name c) (c == 95) (c == 34) (c == 35)) (not_white c (omega (arith, h))) e

pub name_first : (c : ℕ) → begins_name c ≡ true → first c ≡ Letter
name_first c e = ⊎_elim letter dollar (either_true (is_letter c) (c == 36) e)
  where
    by : is_white c ≡ false → is_digit c ≡ false → first c ≡ Letter
    by w d =
        ap₂ (λ x y. first_by x y (begins_name c) (c == 95) (c == 34) (c == 35)) w d
        ∙ ap (λ b. first_by false false b (c == 95) (c == 34) (c == 35)) e

    letter : is_letter c ≡ true → first c ≡ Letter
    letter l = let h = letter_at c l in by (not_white c (omega (arith, h))) (high_digit c h)

    dollar : (c == 36) ≡ true → first c ≡ Letter
    dollar d = let q : c ≡ 36 = eqb-true c 36 d in ap first q

pub mark_first : (c : ℕ) → (c == 95) ≡ true → first c ≡ Mark
mark_first c e = let q : c ≡ 95 = eqb-true c 95 e in ap first q

pub quote_first : (c : ℕ) → (c == 34) ≡ true → first c ≡ Quote
quote_first c e = let q : c ≡ 34 = eqb-true c 34 e in ap first q

pub hash_first : (c : ℕ) → (c == 35) ≡ true → first c ≡ Hash
hash_first c e = let q : c ≡ 35 = eqb-true c 35 e in ap first q

abbrev pub begins_other : List ℕ → First
begins_other [] = White
begins_other (c ∷ cs) = first c

pub sign_other : (s : Sign) → begins_other (sign_text s) ≡ Other
sign_other Sign.Query = refl
sign_other Sign.At = refl
sign_other Sign.SlashAt = refl
sign_other Sign.AtAt = refl
sign_other Sign.Caret = refl
sign_other Sign.Slash = refl
sign_other Sign.Star = refl
sign_other Sign.Plus = refl
sign_other Sign.Minus = refl
sign_other Sign.EqualEqual = refl
sign_other Sign.BangEqual = refl
sign_other Sign.Less = refl
sign_other Sign.LessEqual = refl
sign_other Sign.Greater = refl
sign_other Sign.GreaterEqual = refl
sign_other Sign.SameSign = refl
sign_other Sign.UnsameSign = refl
sign_other Sign.Bang = refl
sign_other Sign.AndAnd = refl
sign_other Sign.BarBar = refl
sign_other Sign.Bar = refl
sign_other Sign.Colon = refl
sign_other Sign.SlashSemicolon = refl
sign_other Sign.Arrow = refl
sign_other Sign.ColonGreater = refl
sign_other Sign.SlashDot = refl
sign_other Sign.SlashSlashDot = refl
sign_other Sign.PlusEqual = refl
sign_other Sign.MinusEqual = refl
sign_other Sign.StarEqual = refl
sign_other Sign.Ampersand = refl
sign_other Sign.SlashSlash = refl
sign_other Sign.Assign = refl
sign_other Sign.ColonEqual = refl
sign_other Sign.CaretEqual = refl
sign_other Sign.CaretColonEqual = refl
sign_other Sign.AssignDot = refl
sign_other Sign.SlashColon = refl
sign_other Sign.Semicolon = refl
sign_other Sign.PlusPlus = refl
sign_other Sign.MinusMinus = refl
sign_other Sign.OpenParen = refl
sign_other Sign.CloseParen = refl
sign_other Sign.OpenBracket = refl
sign_other Sign.CloseBracket = refl
sign_other Sign.OpenBrace = refl
sign_other Sign.CloseBrace = refl
sign_other Sign.Comma = refl

-- ---- what begins with a byte

name_begins : (c : ℕ) (cs : List ℕ) → is_name (c ∷ cs) ≡ true → first c ≡ Letter
name_begins c cs e = name_first c (both_true (begins_name c) (all in_name cs) e).0

blank_begins : (before marks behind : List ℕ) (c : ℕ) (cs : List ℕ) → c ∷ cs ≡ before ++ (marks ++ behind) → IsOptional before → all (λ d. d == 95) marks ≡ true → 0 < length marks →
    can_be (first c) (Whole Kind.Blank) ≡ true
blank_begins [] [] behind c cs e n a s = absurd (omega arith)
blank_begins [] (m ∷ marks) behind c cs e n a s =
    let q : c ≡ m = cc in
    ap (λ f. can_be f (Whole Kind.Blank)) (ap first q ∙ mark_first m (both_true (m == 95) (all (λ d. d == 95) marks) a).0)
blank_begins (b ∷ before) marks behind c cs e n a s =
    let q : c ≡ b = cc in
    ap (λ f. can_be f (Whole Kind.Blank)) (ap first q ∙ name_begins b before n)

pub head_is : (c d : ℕ) (cs ds : List ℕ) → c ∷ cs ≡ d ∷ ds → first c ≡ first d
head_is c d cs ds e = let q : c ≡ d = cc in ap first q

hash_begins : (marks number : List ℕ) (c : ℕ) (cs : List ℕ) → IsHash marks → c ∷ cs ≡ marks ++ number → first c ≡ Hash
hash_begins marks number c cs one e = head_is c 35 cs number e
hash_begins marks number c cs two e = head_is c 35 cs (35 ∷ number) e

pub part_can : (p : Part) (c : ℕ) (cs : List ℕ) → IsPart p (c ∷ cs) → can_be (first c) p ≡ true
part_can (Whole Kind.Number) c cs i = ap (λ f. can_be f (Whole Kind.Number)) (digit_first c (both_true (is_digit c) (all is_digit cs) i.digits.digits).0)
part_can of.Wide c cs i = ap (λ f. can_be f of.Wide) (digit_first c (both_true (is_digit c) (all is_digit cs) i.digits.digits).0)
part_can (Whole Kind.Name) c cs i = ap (λ f. can_be f (Whole Kind.Name)) (name_begins c cs i)
part_can (Whole Kind.Blank) c cs i = blank_begins i.before i.marks i.behind c cs i.is i.name i.only i.some
part_can (Whole Kind.Str) c cs i = ap (λ f. can_be f (Whole Kind.Str)) (head_is c 34 cs _ i.is)
part_can of.OpenString c cs i = ap (λ f. can_be f of.OpenString) (head_is c 34 cs _ i.is)
part_can of.BadEscape c cs i = ap (λ f. can_be f of.BadEscape) (head_is c 34 cs _ i.is)
part_can (Whole Kind.Slot) c cs i = ap (λ f. can_be f (Whole Kind.Slot)) (hash_begins i.marks i.number c cs i.hash i.is)
part_can of.BadSlot c cs i = ap (λ f. can_be f of.BadSlot) (hash_begins i.marks i.number c cs i.hash i.is)
part_can (Whole Kind.Operator) c cs i = ap (λ f. can_be f (Whole Kind.Operator)) (ap begins_other i.is ∙ sign_other i.sign)
part_can of.Space c cs i =
    let q : c ≡ i.byte = (let w = i.is in cc) in
    ap (λ f. can_be f of.Space) (ap first q ∙ white_first i.byte i.white)
part_can of.Comment c cs i = ap (λ f. can_be f of.Comment) (head_is c 40 cs _ i.is)
part_can of.OpenComment c cs i = ap (λ f. can_be f of.OpenComment) (head_is c 40 cs _ i.is)

-- a part is the longest where those that may begin with its first byte are no longer
pub longest_by : (c : ℕ) (cs : List ℕ) (f : First) → first c ≡ f → (p : Part) (front rest : List ℕ) → c ∷ cs ≡ front ++ rest → IsPart p front →
    ((q : Part) (t u : List ℕ) → c ∷ cs ≡ t ++ u → can_be f q ≡ true → IsPart q t → length t ≤ length front) → IsLongest (c ∷ cs) p front rest
longest_by c cs f e p front rest w i bound = record { whole = w; is = i; longest = go }
  where
    go : (q : Part) (t u : List ℕ) → c ∷ cs ≡ t ++ u → IsPart q t → length t ≤ length front
    go q [] u v j = omega arith
    go q (d ∷ t) u v j = bound q (d ∷ t) u v (ap (λ x. can_be x q) (sym e ∙ head_is c d cs (t ++ u) v) ∙ part_can q d t j) j
