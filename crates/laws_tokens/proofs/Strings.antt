-- Strings at the front of a text.
use Rattle.std.proofs.Common.{◌≡◌, refl, sym, ap, ap₂, ◌∙◌, subst, ℕ, suc, ◌+◌, ◌≤◌, Bool, true, false, List, [], ◌∷◌, ◌++◌, length, true≢false, arith, append_assoc, append-nil, length-append, eqb-true}
use Rattle.std.specs.Prelude.{◌==◌}
use Rattle.script_text.specs.Bytes.{begins_with}
use Rattle.syntax.specs.Tokens as tok
use Rattle.syntax.specs.Tokens.{Kind, Scan, Takes, Faults, string_end}
use Rattle.laws_tokens.specs.Texts.{Part, Whole, IsPart, is_escape, Inside, nothing, plain, escape, IsString, IsOpenString, IsBadEscape}
use Rattle.laws_tokens.specs.Texts as of
use Rattle.laws_tokens.proofs.Fronts.{Quote, can_be, quote_first, longest_by}
use Rattle.laws_tokens.proofs.Runs.{Stands, stands}

-- what ends the inside of a string: a quote, or a backslash with no escape behind it
abbrev pub NoEscape : List ℕ → Type 0
NoEscape [] = Unit {0}
NoEscape (c ∷ cs) = is_escape c ≡ false

pub data Ends : List ℕ → Type 0 where
  quote : (rest : List ℕ) → Ends (34 ∷ rest)
  slash : (rest : List ℕ) → NoEscape rest → Ends (92 ∷ rest)

plain_end : (c : ℕ) (w rest z : List ℕ) → (c == 34) ≡ false → (c == 92) ≡ false → Ends z → c ∷ w ≡ z → ⊥
plain_end c w rest z p q (quote r) e = let h : c ≡ 34 = cc in true≢false (sym (ap (λ n. n == 34) h) ∙ p)
plain_end c w rest z p q (slash r n) e = let h : c ≡ 92 = cc in true≢false (sym (ap (λ n. n == 92) h) ∙ q)

escape_end : (c : ℕ) (w z : List ℕ) → is_escape c ≡ true → Ends z → 92 ∷ c ∷ w ≡ z → ⊥
escape_end c w z p (quote r) e = let h : true ≡ false = ap (λ (xs : List ℕ). begins_with (92 ∷ []) xs) e in true≢false h
escape_end c w z p (slash [] n) e = let h : c ∷ w ≡ [] = cc in (let l = ap length h in omega (arith, l))
escape_end c w z p (slash (d ∷ r) n) e = let h : c ≡ d = cc in true≢false (sym p ∙ ap is_escape h ∙ n)

-- what is inside goes no further than to the end of the inside
pub inside_front : (x y z us : List ℕ) → Inside x → Inside y → Ends z → x ++ us ≡ y ++ z → length x ≤ length y
inside_front x y z us nothing j h e = omega arith
inside_front x y z us (plain {cs = xs} c p q i) nothing h e = absurd (plain_end c (xs ++ us) [] z p q h e)
inside_front x y z us (plain {cs = xs} c p q i) (plain {cs = ys} d p' q' j) h e =
    let w : xs ++ us ≡ ys ++ z = cc in
    let r = inside_front xs ys z us i j h w in
    omega (arith, r)
inside_front x y z us (plain {cs = xs} c p q i) (escape {cs = ys} d p' j) h e =
    let w : c ≡ 92 = cc in
    absurd (true≢false (sym (ap (λ n. n == 92) w) ∙ q))
inside_front x y z us (escape {cs = xs} c p i) nothing h e = absurd (escape_end c (xs ++ us) z p h e)
inside_front x y z us (escape {cs = xs} c p i) (plain {cs = ys} d p' q' j) h e =
    let w : d ≡ 92 = cc in
    absurd (true≢false (sym (ap (λ n. n == 92) w) ∙ q'))
inside_front x y z us (escape {cs = xs} c p i) (escape {cs = ys} d p' j) h e =
    let w : xs ++ us ≡ ys ++ z = cc in
    let r = inside_front xs ys z us i j h w in
    omega (arith, r)

-- ---- how a string goes on behind n bytes

data StringEnd (n : ℕ) (cs : List ℕ) (s : Scan) : Type 0 where
  closed : (x rest : List ℕ) → Inside x → cs ≡ x ++ (34 ∷ rest) → s ≡ Takes Kind.Str (n + suc (length x)) → StringEnd n cs s
  broken : (x rest : List ℕ) → Inside x → cs ≡ x ++ (92 ∷ rest) → NoEscape rest → s ≡ Faults tok.BadByte (n + length x) → StringEnd n cs s
  unclosed : Inside cs → s ≡ Faults tok.OpenString 0 → StringEnd n cs s

after_plain : (n c : ℕ) (cs : List ℕ) (s : Scan) → (c == 34) ≡ false → (c == 92) ≡ false → StringEnd (suc n) cs s → StringEnd n (c ∷ cs) s
after_plain n c cs s p q (closed x rest i w e) =
    closed (c ∷ x) rest (plain c p q i) (ap (λ (ys : List ℕ). c ∷ ys) w) (e ∙ ap (Takes Kind.Str) (omega arith))
after_plain n c cs s p q (broken x rest i w h e) =
    broken (c ∷ x) rest (plain c p q i) (ap (λ (ys : List ℕ). c ∷ ys) w) h (e ∙ ap (Faults tok.BadByte) (omega arith))
after_plain n c cs s p q (unclosed i e) = unclosed (plain c p q i) e

after_escape : (n c : ℕ) (cs : List ℕ) (s : Scan) → is_escape c ≡ true → StringEnd (suc (suc n)) cs s → StringEnd n (92 ∷ c ∷ cs) s
after_escape n c cs s p (closed x rest i w e) =
    closed (92 ∷ c ∷ x) rest (escape c p i) (ap (λ (ys : List ℕ). 92 ∷ c ∷ ys) w) (e ∙ ap (Takes Kind.Str) (omega arith))
after_escape n c cs s p (broken x rest i w h e) =
    broken (92 ∷ c ∷ x) rest (escape c p i) (ap (λ (ys : List ℕ). 92 ∷ c ∷ ys) w) h (e ∙ ap (Faults tok.BadByte) (omega arith))
after_escape n c cs s p (unclosed i e) = unclosed (escape c p i) e

abbrev escaped_by : ℕ → List ℕ → Bool → Scan
escaped_by n cs b = elim b as (λ _. Scan) [ true ↦ string_end false (suc (suc n)) cs | false ↦ Faults tok.BadByte n ]

escaped : (n c : ℕ) (cs : List ℕ) (b : Bool) → is_escape c ≡ b → StringEnd (suc (suc n)) cs (string_end false (suc (suc n)) cs) → StringEnd n (92 ∷ c ∷ cs) (escaped_by n cs b)
escaped n c cs true p next = after_escape n c cs (string_end false (suc (suc n)) cs) p next
escaped n c cs false p next = broken [] (c ∷ cs) nothing refl p (ap (Faults tok.BadByte) (omega arith))

abbrev string_by : ℕ → List ℕ → Bool → Bool → Scan
string_by n cs p q =
    elim p as (λ _. Scan) [
      | true ↦ Takes Kind.Str (suc n)
      | false ↦ elim q as (λ _. Scan) [ true ↦ string_end true (suc n) cs | false ↦ string_end false (suc n) cs ]
    ]

at_byte : (n c : ℕ) (cs : List ℕ) (p q : Bool) → (c == 34) ≡ p → (c == 92) ≡ q → StringEnd (suc n) cs (string_end false (suc n) cs) →
    StringEnd n (92 ∷ cs) (string_end true (suc n) cs) → StringEnd n (c ∷ cs) (string_by n cs p q)
at_byte n c cs true q e f next after = closed [] cs nothing (ap (λ (k : ℕ). k ∷ cs) (eqb-true c 34 e)) (ap (Takes Kind.Str) (omega arith))
at_byte n c cs false true e f next after = subst (λ (k : ℕ). StringEnd n (k ∷ cs) (string_end true (suc n) cs)) (sym (eqb-true c 92 f)) after
at_byte n c cs false false e f next after = after_plain n c cs (string_end false (suc n) cs) e f next

string_ends : (n : ℕ) (cs : List ℕ) → StringEnd n cs (string_end false n cs)
string_ends n [] = unclosed nothing refl
string_ends n (c ∷ []) = at_byte n c [] (c == 34) (c == 92) refl refl (unclosed nothing refl) (broken [] [] nothing refl tt (ap (Faults tok.BadByte) (omega arith)))
string_ends n (c ∷ d ∷ ds) =
    at_byte n c (d ∷ ds) (c == 34) (c == 92) refl refl (string_ends (suc n) (d ∷ ds)) (escaped n d ds (is_escape d) refl (string_ends (suc (suc n)) ds))

-- ---- what stands there

pub string_bound : (c : ℕ) (cs y z : List ℕ) → Inside y → Ends z → cs ≡ y ++ z → (q : Part) (t u : List ℕ) → c ∷ cs ≡ t ++ u → can_be Quote q ≡ true → IsPart q t → length t ≤ suc (suc (length y))
string_bound c cs y z j h w (Whole Kind.Str) t u v e i =
    let k : cs ≡ i.inside ++ (34 ∷ u) = (let g : c ∷ cs ≡ 34 ∷ ((i.inside ++ (34 ∷ [])) ++ u) = v ∙ ap (λ (xs : List ℕ). xs ++ u) i.is in (let d : cs ≡ (i.inside ++ (34 ∷ [])) ++ u = cc in d ∙ append_assoc i.inside (34 ∷ []) u)) in
    let r = inside_front i.inside y z (34 ∷ u) i.well j h (sym k ∙ w) in
    let l = ap length i.is in
    let m = length-append i.inside (34 ∷ []) in
    omega (arith, r, l, m)
string_bound c cs y z j h w of.OpenString t u v e i =
    let k : cs ≡ i.inside ++ u = (let g : c ∷ cs ≡ 34 ∷ (i.inside ++ u) = v ∙ ap (λ (xs : List ℕ). xs ++ u) i.is in cc) in
    let r = inside_front i.inside y z u i.well j h (sym k ∙ w) in
    let l = ap length i.is in
    omega (arith, r, l)
string_bound c cs y z j h w of.BadEscape t u v e i =
    let k : cs ≡ i.inside ++ (92 ∷ u) = (let g : c ∷ cs ≡ 34 ∷ ((i.inside ++ (92 ∷ [])) ++ u) = v ∙ ap (λ (xs : List ℕ). xs ++ u) i.is in (let d : cs ≡ (i.inside ++ (92 ∷ [])) ++ u = cc in d ∙ append_assoc i.inside (92 ∷ []) u)) in
    let r = inside_front i.inside y z (92 ∷ u) i.well j h (sym k ∙ w) in
    let l = ap length i.is in
    let m = length-append i.inside (92 ∷ []) in
    omega (arith, r, l, m)
string_bound c cs y z j h w _ t u v e i = absurd (true≢false (sym e))

pub all_bound : (xs : List ℕ) (q : Part) (t u : List ℕ) → xs ≡ t ++ u → length t ≤ length xs
all_bound xs q t u v = let l = ap length v in let m = length-append t u in omega (arith, l, m)

two_more : (y : List ℕ) (d : ℕ) → length (34 ∷ (y ++ (d ∷ []))) ≡ suc (suc (length y))
two_more y d = let m = length-append y (d ∷ []) in omega (arith, m)

pub string_stands : (c : ℕ) (cs : List ℕ) → (c == 34) ≡ true → Stands (c ∷ cs) (string_end false 1 cs)
string_stands c cs e = go (string_ends 1 cs)
  where
    is : c ≡ 34
    is = eqb-true c 34 e

    whole : (y rest : List ℕ) (d : ℕ) → cs ≡ y ++ (d ∷ rest) → c ∷ cs ≡ (34 ∷ (y ++ (d ∷ []))) ++ rest
    whole y rest d w = ap₂ (λ (k : ℕ) (xs : List ℕ). k ∷ xs) is (w ∙ sym (append_assoc y (d ∷ []) rest))

    go : StringEnd 1 cs (string_end false 1 cs) → Stands (c ∷ cs) (string_end false 1 cs)
    go (closed y rest i w a) =
        let l = two_more y 34 in
        stands (Whole Kind.Str) (34 ∷ (y ++ (34 ∷ []))) rest
        (longest_by c cs Quote (quote_first c e) (Whole Kind.Str) (34 ∷ (y ++ (34 ∷ []))) rest (whole y rest 34 w) (record { inside = y; is = refl; well = i })
        (λ q t u v f j. subst (λ k. length t ≤ k) (sym l) (string_bound c cs y (34 ∷ rest) i (quote rest) w q t u v f j)))
        (a ∙ ap (Takes Kind.Str) (omega (arith, l)))
    go (broken y rest i w n a) =
        let l = two_more y 92 in
        stands of.BadEscape (34 ∷ (y ++ (92 ∷ []))) rest
        (longest_by c cs Quote (quote_first c e) of.BadEscape (34 ∷ (y ++ (92 ∷ []))) rest (whole y rest 92 w) (record { inside = y; is = refl; well = i })
        (λ q t u v f j. subst (λ k. length t ≤ k) (sym l) (string_bound c cs y (92 ∷ rest) i (slash rest n) w q t u v f j)))
        (a ∙ ap (Faults tok.BadByte) (let m = length-append y (92 ∷ []) in omega (arith, m)))
    go (unclosed i a) =
        stands of.OpenString (c ∷ cs) []
        (longest_by c cs Quote (quote_first c e) of.OpenString (c ∷ cs) [] (sym (append-nil (c ∷ cs))) (record { inside = cs; is = ap (λ (k : ℕ). k ∷ cs) is; well = i })
        (λ q t u v f j. all_bound (c ∷ cs) q t u v))
        a
