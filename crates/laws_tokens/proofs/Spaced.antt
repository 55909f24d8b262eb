-- A token is a token in front of white space too.
use Rattle.std.proofs.Common.{◌≡◌, refl, sym, ap, ap₂, ◌∙◌, ℕ, ◌<◌, ◌≤◌, ⊎_elim, Bool, true, false, List, [], ◌∷◌, ◌++◌, length, true≢false, arith, append_assoc, append-nil, length-append, eqb-true, leb-true, leb-false}
use Rattle.std.specs.Prelude.{◌==◌, ◌&&◌, not, leb}
use Rattle.script_text.specs.Bytes.{begins_name, in_name, is_digit, is_name, is_white, all}
use Rattle.syntax.specs.Signs.{Sign, sign_text}
use Rattle.syntax.specs.Tokens.{Kind}
use Rattle.laws_tokens.specs.Texts.{Part, Whole, IsPart, IsOptional, IsMarked, IsHash, one, two, IsHashed}
use Rattle.laws_tokens.specs.Texts as of
use Rattle.laws_tokens.specs.Longest.{IsLongest}
use Rattle.laws_tokens.proofs.Fronts.{all_middle, First, White, Digit, Letter, Quote, first, can_be, part_can, head_is, white_first, digit_first, name_first, both_true, either_true}
use Rattle.laws_tokens.proofs.Blanks.{name_only}
use Rattle.laws_tokens.proofs.Strings.{quote, all_bound, string_bound}
use Rattle.laws_tokens.proofs.Comments.{sign_bound}
use Rattle.laws_tokens.proofs.Operators.{no_part}

-- ---- bytes that are no white space

abbrev pub is_black : ℕ → Bool
is_black c = not (is_white c)

black_by : (c : ℕ) (f : First) → first c ≡ f → (f ≡ White → ⊥) → is_black c ≡ true
black_by c f e n = go (is_white c) refl
  where
    go : (b : Bool) → is_white c ≡ b → not b ≡ true
    go true w = absurd (n (sym e ∙ white_first c w))
    go false w = refl

abbrev is_letter_kind : First → Bool
is_letter_kind White = true
is_letter_kind _ = false

no_white : (f : First) → is_letter_kind f ≡ false → f ≡ White → ⊥
no_white f n e = true≢false (ap is_letter_kind (sym e) ∙ n)

pub digit_black : (c : ℕ) → is_digit c ≡ true → is_black c ≡ true
digit_black c e = black_by c Digit (digit_first c e) (no_white Digit refl)

name_black : (c : ℕ) → in_name c ≡ true → is_black c ≡ true
name_black c e =
    ⊎_elim (λ (h : begins_name c ≡ true). black_by c Letter (name_first c h) (no_white Letter refl)) (λ (h : is_digit c ≡ true). digit_black c h)
    (either_true (begins_name c) (is_digit c) e)

mark_black : (c : ℕ) → (c == 95) ≡ true → is_black c ≡ true
mark_black c e = ap is_black (eqb-true c 95 e)

pub all_weaker : (p q : ℕ → Bool) → ((c : ℕ) → p c ≡ true → q c ≡ true) → (t : List ℕ) → all p t ≡ true → all q t ≡ true
all_weaker p q w [] a = refl
all_weaker p q w (c ∷ t) a =
    let both = both_true (p c) (all p t) a in
    ap₂ (λ x y. x && y) (w c both.0) (all_weaker p q w t both.1)

all_both : (p : ℕ → Bool) (t u : List ℕ) → all p t ≡ true → all p u ≡ true → all p (t ++ u) ≡ true
all_both p [] u a b = b
all_both p (c ∷ t) u a b = let both = both_true (p c) (all p t) a in ap₂ (λ x y. x && y) both.0 (all_both p t u both.1 b)

pub sign_black : (s : Sign) → all is_black (sign_text s) ≡ true
sign_black Sign.Query = refl
sign_black Sign.At = refl
sign_black Sign.SlashAt = refl
sign_black Sign.AtAt = refl
sign_black Sign.Caret = refl
sign_black Sign.Slash = refl
sign_black Sign.Star = refl
sign_black Sign.Plus = refl
sign_black Sign.Minus = refl
sign_black Sign.EqualEqual = refl
sign_black Sign.BangEqual = refl
sign_black Sign.Less = refl
sign_black Sign.LessEqual = refl
sign_black Sign.Greater = refl
sign_black Sign.GreaterEqual = refl
sign_black Sign.SameSign = refl
sign_black Sign.UnsameSign = refl
sign_black Sign.Bang = refl
sign_black Sign.AndAnd = refl
sign_black Sign.BarBar = refl
sign_black Sign.Bar = refl
sign_black Sign.Colon = refl
sign_black Sign.SlashSemicolon = refl
sign_black Sign.Arrow = refl
sign_black Sign.ColonGreater = refl
sign_black Sign.SlashDot = refl
sign_black Sign.SlashSlashDot = refl
sign_black Sign.PlusEqual = refl
sign_black Sign.MinusEqual = refl
sign_black Sign.StarEqual = refl
sign_black Sign.Ampersand = refl
sign_black Sign.SlashSlash = refl
sign_black Sign.Assign = refl
sign_black Sign.ColonEqual = refl
sign_black Sign.CaretEqual = refl
sign_black Sign.CaretColonEqual = refl
sign_black Sign.AssignDot = refl
sign_black Sign.SlashColon = refl
sign_black Sign.Semicolon = refl
sign_black Sign.PlusPlus = refl
sign_black Sign.MinusMinus = refl
sign_black Sign.OpenParen = refl
sign_black Sign.CloseParen = refl
sign_black Sign.OpenBracket = refl
sign_black Sign.CloseBracket = refl
sign_black Sign.OpenBrace = refl
sign_black Sign.CloseBrace = refl
sign_black Sign.Comma = refl

abbrev pub AllBlack : List ℕ → Type 0
AllBlack t = all is_black t ≡ true

optional_black : (t : List ℕ) → IsOptional t → AllBlack t
optional_black [] i = refl
optional_black (c ∷ t) i = all_weaker in_name is_black name_black (c ∷ t) (name_only c t i)

hash_black : (t : List ℕ) → IsHash t → AllBlack t
hash_black t one = refl
hash_black t two = refl

pub name_all_black : (t : List ℕ) → is_name t ≡ true → AllBlack t
name_all_black [] i = refl
name_all_black (c ∷ t) i = all_weaker in_name is_black name_black (c ∷ t) (name_only c t i)

pub blank_black : (t : List ℕ) → IsMarked t → AllBlack t
blank_black t i =
    ap (all is_black) i.is
    ∙ all_both is_black i.before (i.marks ++ i.behind) (optional_black i.before i.name)
    (all_both is_black i.marks i.behind (all_weaker (λ c. c == 95) is_black mark_black i.marks i.only) (optional_black i.behind i.head))

pub hashed_black : (good : Bool) (t : List ℕ) → IsHashed good t → AllBlack t
hashed_black good t i = ap (all is_black) i.is ∙ all_both is_black i.marks i.number (hash_black i.marks i.hash) (all_weaker is_digit is_black digit_black i.number i.digits)

-- ---- what is longer has the white space in it

longer : (t u v us : List ℕ) (w : ℕ) → t ++ (w ∷ v) ≡ u ++ us → length t < length u → (x : List ℕ) × (u ≡ t ++ (w ∷ x))
longer [] [] v us w e l = absurd (omega (arith, l))
longer [] (d ∷ u) v us w e l = let q : d ≡ w = cc in (u, ap (λ (k : ℕ). k ∷ u) q)
longer (c ∷ t) [] v us w e l = absurd (omega (arith, l))
longer (c ∷ t) (d ∷ u) v us w e l =
    let q : d ≡ c = cc in
    let h : t ++ (w ∷ v) ≡ u ++ us = cc in
    let r = longer t u v us w h (omega (arith, l)) in
    (r.0, ap₂ (λ (k : ℕ) (ks : List ℕ). k ∷ ks) q r.1)

white_within : (t u v us : List ℕ) (w : ℕ) → is_white w ≡ true → t ++ (w ∷ v) ≡ u ++ us → AllBlack u → length u ≤ length t
white_within t u v us w e q b = go (leb (length u) (length t)) refl
  where
    go : (x : Bool) → leb (length u) (length t) ≡ x → length u ≤ length t
    go true g = leb-true (length u) (length t) g
    go false g =
        let l = leb-false (length u) (length t) g in
        let r = longer t u v us w q (omega (arith, l)) in
        let h = all_middle is_black t r.0 w (ap (all is_black) (sym r.1) ∙ b) in
        absurd (true≢false (sym h ∙ ap not e))

-- ---- a token in front of white space

abbrev pub Spaced : List ℕ → Type 0
Spaced [] = Unit {0}
Spaced (w ∷ rest) = is_white w ≡ true

-- a token of strings that begins with a quote
quoted_bound : (c : ℕ) (cs v us : List ℕ) (w : ℕ) (k : Kind) → IsPart (Whole k) (c ∷ cs) → first c ≡ Quote → (q : Part) (u : List ℕ) → can_be Quote q ≡ true → c ∷ (cs ++ (w ∷ v)) ≡ u ++ us → IsPart q u → length u ≤ length (c ∷ cs)
quoted_bound c cs v us w Kind.Str i f q u g e j =
    let h : cs ++ (w ∷ v) ≡ i.inside ++ (34 ∷ (w ∷ v)) = ap (λ (xs : List ℕ). xs ++ (w ∷ v)) (tail i.is) ∙ append_assoc i.inside (34 ∷ []) (w ∷ v) in
    let b = string_bound c (cs ++ (w ∷ v)) i.inside (34 ∷ (w ∷ v)) i.well (quote (w ∷ v)) h q u us e g j in
    let l = ap length i.is in
    let m = length-append i.inside (34 ∷ []) in
    omega (arith, b, l, m)
  where
    tail : {ds : List ℕ} → c ∷ cs ≡ 34 ∷ ds → cs ≡ ds
    tail e = cc
quoted_bound c cs v us w Kind.Number i f q u g e j = absurd (true≢false (sym (part_can (Whole Kind.Number) c cs i) ∙ ap (λ x. can_be x (Whole Kind.Number)) f))
quoted_bound c cs v us w Kind.Name i f q u g e j = absurd (true≢false (sym (part_can (Whole Kind.Name) c cs i) ∙ ap (λ x. can_be x (Whole Kind.Name)) f))
quoted_bound c cs v us w Kind.Blank i f q u g e j = absurd (true≢false (sym (part_can (Whole Kind.Blank) c cs i) ∙ ap (λ x. can_be x (Whole Kind.Blank)) f))
quoted_bound c cs v us w Kind.Slot i f q u g e j = absurd (true≢false (sym (part_can (Whole Kind.Slot) c cs i) ∙ ap (λ x. can_be x (Whole Kind.Slot)) f))
quoted_bound c cs v us w Kind.Operator i f q u g e j = absurd (true≢false (sym (part_can (Whole Kind.Operator) c cs i) ∙ ap (λ x. can_be x (Whole Kind.Operator)) f))

-- no token but `(` begins with it, and white space does not make it a comment
no_comment : (c : ℕ) (cs v us inside : List ℕ) (w : ℕ) (k : Kind) → IsPart (Whole k) (c ∷ cs) → is_white w ≡ true → c ∷ (cs ++ (w ∷ v)) ≡ 40 ∷ 42 ∷ (inside ++ us) → ⊥
no_comment c cs v us inside w Kind.Operator i h e = go cs (sign_bound (c ∷ cs) 40 cs [] refl (ap (λ (k : ℕ). k ∷ cs) (sym head) ∙ sym (append-nil (c ∷ cs))) i) (rest (cs ++ (w ∷ v)) (42 ∷ (inside ++ us)) e)
  where
    head : c ≡ 40
    head = cc

    rest : (xs ys : List ℕ) → c ∷ xs ≡ 40 ∷ ys → xs ≡ ys
    rest xs ys e = cc

    go : (cs : List ℕ) → length (c ∷ cs) ≤ 1 → cs ++ (w ∷ v) ≡ 42 ∷ (inside ++ us) → ⊥
    go [] l e = let q : w ≡ 42 = cc in true≢false (sym h ∙ ap is_white q)
    go (d ∷ ds) l e = omega (arith, l)
no_comment c cs v us inside w Kind.Number i h e = true≢false (sym (part_can (Whole Kind.Number) c cs i) ∙ ap (λ x. can_be x (Whole Kind.Number)) (head_is c 40 (cs ++ (w ∷ v)) (42 ∷ (inside ++ us)) e))
no_comment c cs v us inside w Kind.Name i h e = true≢false (sym (part_can (Whole Kind.Name) c cs i) ∙ ap (λ x. can_be x (Whole Kind.Name)) (head_is c 40 (cs ++ (w ∷ v)) (42 ∷ (inside ++ us)) e))
no_comment c cs v us inside w Kind.Blank i h e = true≢false (sym (part_can (Whole Kind.Blank) c cs i) ∙ ap (λ x. can_be x (Whole Kind.Blank)) (head_is c 40 (cs ++ (w ∷ v)) (42 ∷ (inside ++ us)) e))
no_comment c cs v us inside w Kind.Str i h e = true≢false (sym (part_can (Whole Kind.Str) c cs i) ∙ ap (λ x. can_be x (Whole Kind.Str)) (head_is c 40 (cs ++ (w ∷ v)) (42 ∷ (inside ++ us)) e))
no_comment c cs v us inside w Kind.Slot i h e = true≢false (sym (part_can (Whole Kind.Slot) c cs i) ∙ ap (λ x. can_be x (Whole Kind.Slot)) (head_is c 40 (cs ++ (w ∷ v)) (42 ∷ (inside ++ us)) e))

as_quote : (c : ℕ) (xs u us inside : List ℕ) → c ∷ xs ≡ u ++ us → u ≡ 34 ∷ inside → first c ≡ Quote
as_quote c xs u us inside e q = head_is c 34 xs (inside ++ us) (e ∙ ap (λ (ys : List ℕ). ys ++ us) q)

white_bound : (c : ℕ) (cs v : List ℕ) (w : ℕ) (k : Kind) → IsPart (Whole k) (c ∷ cs) → is_white w ≡ true → (q : Part) (u us : List ℕ) → c ∷ (cs ++ (w ∷ v)) ≡ u ++ us → IsPart q u → length u ≤ length (c ∷ cs)
white_bound c cs v w k i h (Whole Kind.Number) u us e j = white_within (c ∷ cs) u v us w h e (all_weaker is_digit is_black digit_black u j.digits.digits)
white_bound c cs v w k i h of.Wide u us e j = white_within (c ∷ cs) u v us w h e (all_weaker is_digit is_black digit_black u j.digits.digits)
white_bound c cs v w k i h (Whole Kind.Name) u us e j = white_within (c ∷ cs) u v us w h e (name_all_black u j)
white_bound c cs v w k i h (Whole Kind.Blank) u us e j = white_within (c ∷ cs) u v us w h e (blank_black u j)
white_bound c cs v w k i h (Whole Kind.Slot) u us e j = white_within (c ∷ cs) u v us w h e (hashed_black true u j)
white_bound c cs v w k i h of.BadSlot u us e j = white_within (c ∷ cs) u v us w h e (hashed_black false u j)
white_bound c cs v w k i h (Whole Kind.Operator) u us e j = white_within (c ∷ cs) u v us w h e (ap (all is_black) j.is ∙ sign_black j.sign)
white_bound c cs v w k i h of.Space u us e j = let l = ap length j.is in omega (arith, l)
white_bound c cs v w k i h (Whole Kind.Str) u us e j = quoted_bound c cs v us w k i (as_quote c (cs ++ (w ∷ v)) u us (j.inside ++ (34 ∷ [])) e j.is) (Whole Kind.Str) u refl e j
white_bound c cs v w k i h of.OpenString u us e j = quoted_bound c cs v us w k i (as_quote c (cs ++ (w ∷ v)) u us j.inside e j.is) of.OpenString u refl e j
white_bound c cs v w k i h of.BadEscape u us e j = quoted_bound c cs v us w k i (as_quote c (cs ++ (w ∷ v)) u us (j.inside ++ (92 ∷ [])) e j.is) of.BadEscape u refl e j
white_bound c cs v w k i h of.Comment u us e j = absurd (no_comment c cs v us j.inside w k i h (e ∙ ap (λ (ys : List ℕ). ys ++ us) j.is))
white_bound c cs v w k i h of.OpenComment u us e j = absurd (no_comment c cs v us j.inside w k i h (e ∙ ap (λ (ys : List ℕ). ys ++ us) j.is))

pub spaced : (k : Kind) (t rest : List ℕ) → IsPart (Whole k) t → Spaced rest → IsLongest (t ++ rest) (Whole k) t rest
spaced k [] rest i s = absurd (no_part (Whole k) i)
spaced k (c ∷ cs) [] i s = record {
  whole = refl;
  is = i;
  longest = λ q u us e j. let h = all_bound ((c ∷ cs) ++ []) q u us e in let l = ap length (append-nil (c ∷ cs)) in omega (arith, h, l);
}
spaced k (c ∷ cs) (w ∷ v) i s = record { whole = refl; is = i; longest = λ q u us e j. white_bound c cs v w k i s q u us e j }
