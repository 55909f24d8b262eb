-- A text is a part of one kind at most, so the longest part at a place is one.
use Rattle.std.proofs.Common.{◌≡◌, refl, sym, ap, ap₂, ◌∙◌, subst, ℕ, suc, pred, ◌+◌, ◌<◌, Bool, true, false, List, [], ◌∷◌, ◌++◌, length, Some, true≢false, arith, append-nil, length-append, eqb-true}
use Rattle.std.specs.Prelude.{◌==◌}
use Rattle.script_text.specs.Bytes.{in_name, is_digit, is_name, all, begins_with}
use Rattle.syntax.specs.Tokens as tok
use Rattle.syntax.specs.Tokens.{Kind, Token, Lexed, LexFault, Skips, and_token, lex_from, lex, BadByte}
use Rattle.laws_tokens.specs.Texts.{Part, Whole, IsPart, IsNumber, IsWide, IsMarked, Inside, IsString, IsOpenString, IsBadEscape, IsHash, one, two, IsHashed, is_slot_number, IsSign, Nested, ended, begun, left, byte, IsComment, IsOpenComment}
use Rattle.laws_tokens.specs.Texts as of
use Rattle.laws_tokens.specs.Longest.{IsLongest, HasNone, IsCut, nothing, token, passed, faulty, strange, stopped, passes, fault_of}
use Rattle.laws_tokens.specs.Laws.{TokensAreThese}
use Rattle.laws_tokens.proofs.Fronts.{later, all_middle, First, White, Digit, Letter, Mark, Quote, Hash, Other, first, can_be, part_can, both_true}
use Rattle.laws_tokens.proofs.Blanks.{name_only, same_rest}
use Rattle.laws_tokens.proofs.Strings.{Ends, quote, slash, inside_front}
use Rattle.laws_tokens.proofs.Comments.{nested_front, sign_bound}
use Rattle.laws_tokens.proofs.Operators.{no_part, part_some}
use Rattle.laws_tokens.proofs.Runs as runs
use Rattle.laws_tokens.proofs.Runs.{answer, Stands, stands}
use Rattle.laws_tokens.proofs.Cuts.{scan_stands, lexed_by}

-- ---- two kinds

narrow_or_wide : (t : List ℕ) → IsNumber t → IsWide t → ⊥
narrow_or_wide t i j = omega (arith, i.fits, j.wide)

name_or_blank : (t : List ℕ) → is_name t ≡ true → IsMarked t → ⊥
name_or_blank [] n i = true≢false (sym n)
name_or_blank (c ∷ t) n i = go i.marks i.only i.some i.is
  where
    go : (marks : List ℕ) → all (λ d. d == 95) marks ≡ true → 0 < length marks → c ∷ t ≡ i.before ++ (marks ++ i.behind) → ⊥
    go [] a s e = omega (arith, s)
    go (m ∷ marks) a s e =
        let h = all_middle in_name i.before (marks ++ i.behind) m (ap (all in_name) (sym e) ∙ name_only c t n) in
        true≢false (sym h ∙ ap in_name (eqb-true m 95 (both_true (m == 95) (all (λ d. d == 95) marks) a).0))

no_longer_inside : (x y z : List ℕ) (d : ℕ) → Inside x → Inside y → Ends (d ∷ []) → x ≡ y ++ (d ∷ []) → ⊥
no_longer_inside x y z d i j h e =
    let r = inside_front x y (d ∷ []) [] i j h (append-nil x ∙ e) in
    let l = ap length e in
    let m = length-append y (d ∷ []) in
    omega (arith, r, l, m)

closed_or_open : (t : List ℕ) → IsString t → IsOpenString t → ⊥
closed_or_open t i j = no_longer_inside j.inside i.inside [] 34 j.well i.well (quote []) (later 34 34 j.inside (i.inside ++ (34 ∷ [])) (sym j.is ∙ i.is))

broken_or_open : (t : List ℕ) → IsBadEscape t → IsOpenString t → ⊥
broken_or_open t i j = no_longer_inside j.inside i.inside [] 92 j.well i.well (slash [] tt) (later 34 34 j.inside (i.inside ++ (92 ∷ [])) (sym j.is ∙ i.is))

last_byte : (x y : List ℕ) (a b : ℕ) → x ++ (a ∷ []) ≡ y ++ (b ∷ []) → a ≡ b
last_byte [] [] a b e = cc
last_byte [] (d ∷ y) a b e = let h = later a d [] (y ++ (b ∷ [])) e in let l = ap length h in let m = length-append y (b ∷ []) in absurd (omega (arith, l, m))
last_byte (c ∷ x) [] a b e = let h = later c b (x ++ (a ∷ [])) [] e in let l = ap length h in let m = length-append x (a ∷ []) in absurd (omega (arith, l, m))
last_byte (c ∷ x) (d ∷ y) a b e = last_byte x y a b (later c d (x ++ (a ∷ [])) (y ++ (b ∷ [])) e)

closed_or_broken : (t : List ℕ) → IsString t → IsBadEscape t → ⊥
closed_or_broken t i j =
    let h = last_byte i.inside j.inside 34 92 (later 34 34 (i.inside ++ (34 ∷ [])) (j.inside ++ (92 ∷ [])) (sym i.is ∙ j.is)) in
    omega (arith, h)

no_digit_hash : (number rest : List ℕ) → all is_digit number ≡ true → number ≡ 35 ∷ rest → ⊥
no_digit_hash number rest a e = true≢false (sym (both_true (is_digit 35) (all is_digit rest) (ap (all is_digit) (sym e) ∙ a)).0)

one_number : (marks number marks' number' : List ℕ) → IsHash marks → IsHash marks' → all is_digit number ≡ true → all is_digit number' ≡ true → marks ++ number ≡ marks' ++ number' → number ≡ number'
one_number marks number marks' number' one one a b e = later 35 35 number number' e
one_number marks number marks' number' one two a b e = absurd (no_digit_hash number number' a (later 35 35 number (35 ∷ number') e))
one_number marks number marks' number' two one a b e = absurd (no_digit_hash number' number b (later 35 35 number' (35 ∷ number) (sym e)))
one_number marks number marks' number' two two a b e = later 35 35 number number' (later 35 35 (35 ∷ number) (35 ∷ number') e)

good_or_bad : (t : List ℕ) → IsHashed true t → IsHashed false t → ⊥
good_or_bad t i j =
    let e = one_number i.marks i.number j.marks j.number i.hash j.hash i.digits j.digits (sym i.is ∙ j.is) in
    true≢false (sym i.judged ∙ ap is_slot_number e ∙ j.judged)

sign_or_comment : (t inside : List ℕ) → IsSign t → t ≡ 40 ∷ 42 ∷ inside → ⊥
sign_or_comment t inside i e =
    let h = sign_bound t 40 (42 ∷ inside) [] refl (sym e ∙ sym (append-nil t)) i in
    let l = ap length e in
    omega (arith, h, l)

-- what is open stays so behind a byte 0
zero_alone : (a b c : ℕ) (cs : List ℕ) → (0 == b) ≡ false → begins_with (a ∷ b ∷ []) (c ∷ cs) ≡ false → begins_with (a ∷ b ∷ []) (c ∷ (cs ++ (0 ∷ []))) ≡ false
zero_alone a b c [] z e = go (c == a) (0 == b) z
  where
    go : (p q : Bool) → q ≡ false → elim p as (λ _. Bool) [ true ↦ elim q as (λ _. Bool) [ true ↦ true | false ↦ false ] | false ↦ false ] ≡ false
    go true true n = n
    go true false n = refl
    go false q n = refl
zero_alone a b c (d ∷ cs) z e = e

open_more : (m n i : ℕ) (x : List ℕ) → Nested m x n → n ≡ suc i → Nested m (x ++ (0 ∷ [])) n
open_more m n i x ended e = subst (λ (k : ℕ). Nested k (0 ∷ []) k) (sym e) (byte 0 refl refl ended)
open_more m n i x (begun {m = k} {cs = cs} h) e = begun (open_more (suc (suc k)) n i cs h e)
open_more m n i x (left {m = k} {cs = cs} h) e = left (open_more k n i cs h e)
open_more m n i x (byte {m = k} {cs = cs} c f g h) e = byte c (zero_alone 40 42 c cs refl f) (zero_alone 42 41 c cs refl g) (open_more (suc k) n i cs h e)

ended_or_open : (t : List ℕ) → IsComment t → IsOpenComment t → ⊥
ended_or_open t i j =
    let same : i.inside ≡ j.inside = later 42 42 i.inside j.inside (later 40 40 (42 ∷ i.inside) (42 ∷ j.inside) (sym i.is ∙ j.is)) in
    let longer = open_more 1 (suc j.inner) j.inner j.inside j.stays refl in
    let h = nested_front 1 (suc j.inner) (j.inside ++ (0 ∷ [])) i.inside [] (0 ∷ []) longer i.ends (append-nil (j.inside ++ (0 ∷ [])) ∙ ap (λ (xs : List ℕ). xs ++ (0 ∷ [])) (sym same)) in
    let l = ap length same in
    let m = length-append j.inside (0 ∷ []) in
    omega (arith, h, l, m)

-- ---- one kind

space_same : (p q : Part) → can_be White p ≡ true → can_be White q ≡ true → p ≡ q
space_same of.Space of.Space a b = refl
space_same of.Space _ a b = absurd (true≢false (sym b))
space_same _ q a b = absurd (true≢false (sym a))

digit_same : (p q : Part) (t : List ℕ) → can_be Digit p ≡ true → can_be Digit q ≡ true → IsPart p t → IsPart q t → p ≡ q
digit_same (Whole Kind.Number) (Whole Kind.Number) t a b i j = refl
digit_same (Whole Kind.Number) of.Wide t a b i j = absurd (narrow_or_wide t i j)
digit_same (Whole Kind.Number) _ t a b i j = absurd (true≢false (sym b))
digit_same of.Wide (Whole Kind.Number) t a b i j = absurd (narrow_or_wide t j i)
digit_same of.Wide of.Wide t a b i j = refl
digit_same of.Wide _ t a b i j = absurd (true≢false (sym b))
digit_same _ q t a b i j = absurd (true≢false (sym a))

letter_same : (p q : Part) (t : List ℕ) → can_be Letter p ≡ true → can_be Letter q ≡ true → IsPart p t → IsPart q t → p ≡ q
letter_same (Whole Kind.Name) (Whole Kind.Name) t a b i j = refl
letter_same (Whole Kind.Name) (Whole Kind.Blank) t a b i j = absurd (name_or_blank t i j)
letter_same (Whole Kind.Name) _ t a b i j = absurd (true≢false (sym b))
letter_same (Whole Kind.Blank) (Whole Kind.Name) t a b i j = absurd (name_or_blank t j i)
letter_same (Whole Kind.Blank) (Whole Kind.Blank) t a b i j = refl
letter_same (Whole Kind.Blank) _ t a b i j = absurd (true≢false (sym b))
letter_same _ q t a b i j = absurd (true≢false (sym a))

mark_same : (p q : Part) → can_be Mark p ≡ true → can_be Mark q ≡ true → p ≡ q
mark_same (Whole Kind.Blank) (Whole Kind.Blank) a b = refl
mark_same (Whole Kind.Blank) _ a b = absurd (true≢false (sym b))
mark_same _ q a b = absurd (true≢false (sym a))

quote_same : (p q : Part) (t : List ℕ) → can_be Quote p ≡ true → can_be Quote q ≡ true → IsPart p t → IsPart q t → p ≡ q
quote_same (Whole Kind.Str) (Whole Kind.Str) t a b i j = refl
quote_same (Whole Kind.Str) of.OpenString t a b i j = absurd (closed_or_open t i j)
quote_same (Whole Kind.Str) of.BadEscape t a b i j = absurd (closed_or_broken t i j)
quote_same (Whole Kind.Str) _ t a b i j = absurd (true≢false (sym b))
quote_same of.OpenString (Whole Kind.Str) t a b i j = absurd (closed_or_open t j i)
quote_same of.OpenString of.OpenString t a b i j = refl
quote_same of.OpenString of.BadEscape t a b i j = absurd (broken_or_open t j i)
quote_same of.OpenString _ t a b i j = absurd (true≢false (sym b))
quote_same of.BadEscape (Whole Kind.Str) t a b i j = absurd (closed_or_broken t j i)
quote_same of.BadEscape of.OpenString t a b i j = absurd (broken_or_open t i j)
quote_same of.BadEscape of.BadEscape t a b i j = refl
quote_same of.BadEscape _ t a b i j = absurd (true≢false (sym b))
quote_same _ q t a b i j = absurd (true≢false (sym a))

hash_same : (p q : Part) (t : List ℕ) → can_be Hash p ≡ true → can_be Hash q ≡ true → IsPart p t → IsPart q t → p ≡ q
hash_same (Whole Kind.Slot) (Whole Kind.Slot) t a b i j = refl
hash_same (Whole Kind.Slot) of.BadSlot t a b i j = absurd (good_or_bad t i j)
hash_same (Whole Kind.Slot) _ t a b i j = absurd (true≢false (sym b))
hash_same of.BadSlot (Whole Kind.Slot) t a b i j = absurd (good_or_bad t j i)
hash_same of.BadSlot of.BadSlot t a b i j = refl
hash_same of.BadSlot _ t a b i j = absurd (true≢false (sym b))
hash_same _ q t a b i j = absurd (true≢false (sym a))

other_same : (p q : Part) (t : List ℕ) → can_be Other p ≡ true → can_be Other q ≡ true → IsPart p t → IsPart q t → p ≡ q
other_same (Whole Kind.Operator) (Whole Kind.Operator) t a b i j = refl
other_same (Whole Kind.Operator) of.Comment t a b i j = absurd (sign_or_comment t j.inside i j.is)
other_same (Whole Kind.Operator) of.OpenComment t a b i j = absurd (sign_or_comment t j.inside i j.is)
other_same (Whole Kind.Operator) _ t a b i j = absurd (true≢false (sym b))
other_same of.Comment (Whole Kind.Operator) t a b i j = absurd (sign_or_comment t i.inside j i.is)
other_same of.Comment of.Comment t a b i j = refl
other_same of.Comment of.OpenComment t a b i j = absurd (ended_or_open t i j)
other_same of.Comment _ t a b i j = absurd (true≢false (sym b))
other_same of.OpenComment (Whole Kind.Operator) t a b i j = absurd (sign_or_comment t i.inside j i.is)
other_same of.OpenComment of.Comment t a b i j = absurd (ended_or_open t j i)
other_same of.OpenComment of.OpenComment t a b i j = refl
other_same of.OpenComment _ t a b i j = absurd (true≢false (sym b))
other_same _ q t a b i j = absurd (true≢false (sym a))

part_same : (p q : Part) (t : List ℕ) → IsPart p t → IsPart q t → p ≡ q
part_same p q [] i j = absurd (no_part p i)
part_same p q (c ∷ t) i j = go (first c) (part_can p c t i) (part_can q c t j)
  where
    go : (f : First) → can_be f p ≡ true → can_be f q ≡ true → p ≡ q
    go White a b = space_same p q a b
    go Digit a b = digit_same p q (c ∷ t) a b i j
    go Letter a b = letter_same p q (c ∷ t) a b i j
    go Mark a b = mark_same p q a b
    go Quote a b = quote_same p q (c ∷ t) a b i j
    go Hash a b = hash_same p q (c ∷ t) a b i j
    go Other a b = other_same p q (c ∷ t) a b i j

-- ---- one longest

same_front : (x y u v : List ℕ) → x ++ u ≡ y ++ v → length x ≡ length y → x ≡ y
same_front [] [] u v e l = refl
same_front [] (d ∷ y) u v e l = absurd (omega (arith, l))
same_front (c ∷ x) [] u v e l = absurd (omega (arith, l))
same_front (c ∷ x) (d ∷ y) u v e l =
    let q : c ≡ d = cc in
    ap₂ (λ (k : ℕ) (ks : List ℕ). k ∷ ks) q (same_front x y u v (later c d (x ++ u) (y ++ v) e) (omega (arith, l)))

pub record One (p q : Part) (x y u v : List ℕ) : Type 0 where
  pub part : p ≡ q
  pub front : x ≡ y
  pub rest : u ≡ v

pub one_longest : (text : List ℕ) (p q : Part) (x y u v : List ℕ) → IsLongest text p x u → IsLongest text q y v → One p q x y u v
one_longest text p q x y u v i j =
    let w : x ++ u ≡ y ++ v = sym i.whole ∙ j.whole in
    let a = i.longest q y v j.whole j.is in
    let b = j.longest p x u i.whole i.is in
    let l : length x ≡ length y = omega (arith, a, b) in
    let f = same_front x y u v w l in
    record { part = part_same p q x i.is (subst (IsPart q) (sym f) j.is); front = f; rest = same_rest x u y v w l }

-- ---- one list of tokens

-- what the scanner answers of the longest part
pub scan_is : (c : ℕ) (cs : List ℕ) (p : Part) (front rest : List ℕ) → IsLongest (c ∷ cs) p front rest → tok.scan c cs ≡ answer p (length front)
scan_is c cs p front rest l = go (scan_stands c cs)
  where
    go : Stands (c ∷ cs) (tok.scan c cs) → tok.scan c cs ≡ answer p (length front)
    go (stands q y v h e) =
        let o = one_longest (c ∷ cs) q p y front v rest h l in
        e ∙ ap₂ (λ (r : Part) (xs : List ℕ). answer r (length xs)) o.part o.front
    go (runs.strange none e) = absurd (none p front rest l.whole l.is)

abbrev AsLexed : ℕ → List ℕ → Lexed → Type 0
AsLexed at text l = l ≡ lex_from at 0 text

pub over : (ds rest : List ℕ) (at : ℕ) → lex_from at (length ds) (ds ++ rest) ≡ lex_from (at + length ds) 0 rest
over [] rest at = ap (λ k. lex_from k 0 rest) (omega arith)
over (d ∷ ds) rest at = over ds rest (suc at) ∙ ap (λ k. lex_from k 0 rest) (omega arith)

behind : (at c : ℕ) (cs front rest : List ℕ) → c ∷ cs ≡ front ++ rest → 0 < length front → lex_from (suc at) (pred (length front)) cs ≡ lex_from (at + length front) 0 rest
behind at c cs [] rest w s = absurd (omega (arith, s))
behind at c cs (d ∷ ds) rest w s =
    ap (λ xs. lex_from (suc at) (length ds) xs) (later c d cs (ds ++ rest) w)
    ∙ over ds rest (suc at)
    ∙ ap (λ k. lex_from k 0 rest) (omega arith)

passed_answer : (p : Part) (n : ℕ) → passes p ≡ true → answer p n ≡ Skips n
passed_answer of.Space n e = refl
passed_answer of.Comment n e = refl
passed_answer _ n e = absurd (true≢false (sym e))

faulty_answer : (at n : ℕ) (cs : List ℕ) (p : Part) (fault : LexFault) → fault_of p at n ≡ Some fault → stopped fault ≡ lexed_by at cs (answer p n)
faulty_answer at n cs of.Wide fault e = let h : tok.WideNumber at ≡ fault = cc in ap stopped (sym h) ∙ ap (λ k. stopped (tok.WideNumber k)) (omega arith)
faulty_answer at n cs of.BadSlot fault e = let h : BadByte at ≡ fault = cc in ap stopped (sym h) ∙ ap (λ k. stopped (BadByte k)) (omega arith)
faulty_answer at n cs of.OpenString fault e = let h : tok.OpenString at ≡ fault = cc in ap stopped (sym h) ∙ ap (λ k. stopped (tok.OpenString k)) (omega arith)
faulty_answer at n cs of.BadEscape fault e = let h : BadByte (at + pred n) ≡ fault = cc in ap stopped (sym h)
faulty_answer at n cs of.OpenComment fault e = let h : tok.OpenComment at ≡ fault = cc in ap stopped (sym h) ∙ ap (λ k. stopped (tok.OpenComment k)) (omega arith)
faulty_answer at n cs (Whole kind) fault e = cc
faulty_answer at n cs of.Space fault e = cc
faulty_answer at n cs of.Comment fault e = cc

some_text : (text : List ℕ) (p : Part) (front rest : List ℕ) → IsLongest text p front rest → ((c : ℕ) (cs : List ℕ) → text ≡ c ∷ cs → ⊥) → ⊥
some_text [] p front rest l n =
    let s = part_some p front l.is in
    let h = ap length l.whole in
    let m = length-append front rest in
    omega (arith, s, h, m)
some_text (c ∷ cs) p front rest l n = n c cs refl

token_as : (at : ℕ) (text : List ℕ) (l : Lexed) (kind : Kind) (front rest : List ℕ) → IsLongest text (Whole kind) front rest → AsLexed (at + length front) rest l →
    AsLexed at text (and_token (record { kind = kind; from = at; to = at + length front }) l)
token_as at [] l kind front rest h r = absurd (some_text [] (Whole kind) front rest h (λ c cs e. let g = ap length e in omega (arith, g)))
token_as at (c ∷ cs) l kind front rest h r =
    let t : Token = record { kind = kind; from = at; to = at + length front } in
    ap (and_token t) (r ∙ sym (behind at c cs front rest h.whole (part_some (Whole kind) front h.is)))
    ∙ ap (lexed_by at cs) (sym (scan_is c cs (Whole kind) front rest h))

passed_as : (at : ℕ) (text : List ℕ) (l : Lexed) (p : Part) (front rest : List ℕ) → IsLongest text p front rest → passes p ≡ true → AsLexed (at + length front) rest l → AsLexed at text l
passed_as at [] l p front rest h e r = absurd (some_text [] p front rest h (λ c cs e. let g = ap length e in omega (arith, g)))
passed_as at (c ∷ cs) l p front rest h e r =
    r ∙ sym (behind at c cs front rest h.whole (part_some p front h.is))
    ∙ ap (lexed_by at cs) (sym (passed_answer p (length front) e) ∙ sym (scan_is c cs p front rest h))

faulty_as : (at : ℕ) (text : List ℕ) (p : Part) (front rest : List ℕ) (fault : LexFault) → IsLongest text p front rest → fault_of p at (length front) ≡ Some fault → AsLexed at text (stopped fault)
faulty_as at [] p front rest fault h e = absurd (some_text [] p front rest h (λ c cs e. let g = ap length e in omega (arith, g)))
faulty_as at (c ∷ cs) p front rest fault h e =
    faulty_answer at (length front) cs p fault e ∙ ap (lexed_by at cs) (sym (scan_is c cs p front rest h))

strange_as : (at c : ℕ) (cs : List ℕ) → HasNone (c ∷ cs) → AsLexed at (c ∷ cs) (stopped (BadByte at))
strange_as at c cs none = go (scan_stands c cs)
  where
    go : Stands (c ∷ cs) (tok.scan c cs) → AsLexed at (c ∷ cs) (stopped (BadByte at))
    go (stands q y v h e) = absurd (none q y v h.whole h.is)
    go (runs.strange n e) = ap (λ k. stopped (BadByte k)) (let z : at ≡ at + 0 = omega arith in z) ∙ ap (lexed_by at cs) (sym e)

cut_is : (at : ℕ) (text : List ℕ) (l : Lexed) → IsCut at text l → AsLexed at text l
cut_is at text l (nothing a) = refl
cut_is at text l (token a {l = m} kind front rest h k) = token_as at text m kind front rest h (cut_is (at + length front) rest m k)
cut_is at text l (passed a part front rest h e k) = passed_as at text l part front rest h e (cut_is (at + length front) rest l k)
cut_is at text l (faulty a part front rest fault h e) = faulty_as at text part front rest fault h e
cut_is at text l (strange a c cs none) = strange_as at c cs none

pub these_alone : TokensAreThese
these_alone text l k = cut_is 0 text l k
