-- Operators and brackets at the front of a text.
use Rattle.std.proofs.Common.{◌≡◌, refl, sym, ap, ap₂, ◌∙◌, subst, ℕ, zero, suc, ◌<◌, ◌≤◌, ⊎_elim, Bool, true, false, List, [], ◌∷◌, ◌++◌, length, Option, Some, None, true≢false, arith, length-append, eqb-true, eq-eqb, leb-true, leb-false}
use Rattle.std.specs.Prelude.{◌==◌, ◌&&◌, ◌||◌, not, leb, codes}
use Rattle.script_text.specs.Bytes.{begins_with}
use Rattle.syntax.specs.Signs.{Sign, sign_text, signs}
use Rattle.syntax.specs.Signs as sign
use Rattle.syntax.specs.Tokens as tok
use Rattle.syntax.specs.Tokens.{Kind, Scan, Takes, Faults, operator_in}
use Rattle.laws_tokens.specs.Texts.{Part, Whole, IsPart, IsSign, IsHash, one, two}
use Rattle.laws_tokens.specs.Texts as of
use Rattle.laws_tokens.specs.Longest.{HasNone}
use Rattle.laws_tokens.proofs.Fronts.{White, Other, begins_other, sign_other, can_be, first, head_is, part_can, longest_by, both_true, either_true}
use Rattle.laws_tokens.proofs.Runs.{Stands, stands, strange}

-- ---- fronts

record Front (t cs : List ℕ) : Type 0 where
  rest : List ℕ
  whole : cs ≡ t ++ rest

begins_split : (t cs : List ℕ) → begins_with t cs ≡ true → Front t cs
begins_split [] cs e = record { rest = cs; whole = refl }
begins_split (d ∷ t) [] e = absurd (true≢false (sym e))
begins_split (d ∷ t) (c ∷ cs) e = go (c == d) refl (begins_split t cs) e
  where
    go : (b : Bool) → (c == d) ≡ b → (begins_with t cs ≡ true → Front t cs) → elim b [ true ↦ begins_with t cs | false ↦ false ] ≡ true → Front (d ∷ t) (c ∷ cs)
    go true q next e = let f = next e in record { rest = f.rest; whole = ap₂ (λ (x : ℕ) (xs : List ℕ). x ∷ xs) (eqb-true c d q) f.whole }
    go false q next e = absurd (true≢false (sym e))

same_byte : (c : ℕ) → (c == c) ≡ true
same_byte c = eq-eqb c c refl

begins_step : (t v : List ℕ) (b : Bool) → b ≡ true → begins_with t v ≡ true → elim b [ true ↦ begins_with t v | false ↦ false ] ≡ true
begins_step t v true e h = h
begins_step t v false e h = e

-- of two fronts the longer begins with the other
begins_front : (t v u w : List ℕ) → t ++ u ≡ v ++ w → length t ≤ length v → begins_with t v ≡ true
begins_front [] v u w e l = refl
begins_front (c ∷ t) [] u w e l = absurd (omega (arith, l))
begins_front (c ∷ t) (d ∷ v) u w e l =
    let q : d ≡ c = cc in
    let h : t ++ u ≡ v ++ w = cc in
    let s : (d == c) ≡ true = ap (λ k. k == c) q ∙ same_byte c in
    begins_step t v (d == c) s (begins_front t v u w h (omega (arith, l)))

begins_join : (t rest : List ℕ) → begins_with t (t ++ rest) ≡ true
begins_join [] rest = refl
begins_join (c ∷ t) rest = ap (λ b. elim b [ true ↦ begins_with t (t ++ rest) | false ↦ false ]) (same_byte c) ∙ begins_join t rest

-- ---- the list of signs

abbrev nth : ℕ → List Sign → Option Sign
nth n [] = None
nth zero (s ∷ ss) = Some s
nth (suc n) (s ∷ ss) = nth n ss

abbrev place : Sign → ℕ
place sign.Query = 26
place sign.At = 27
place sign.SlashAt = 6
place sign.AtAt = 7
place sign.Caret = 28
place sign.Slash = 30
place sign.Star = 31
place sign.Plus = 32
place sign.Minus = 29
place sign.EqualEqual = 8
place sign.BangEqual = 9
place sign.Less = 33
place sign.LessEqual = 10
place sign.Greater = 34
place sign.GreaterEqual = 11
place sign.SameSign = 0
place sign.UnsameSign = 1
place sign.Bang = 35
place sign.AndAnd = 12
place sign.BarBar = 13
place sign.Bar = 36
place sign.Colon = 37
place sign.SlashSemicolon = 14
place sign.Arrow = 15
place sign.ColonGreater = 16
place sign.SlashDot = 17
place sign.SlashSlashDot = 2
place sign.PlusEqual = 18
place sign.MinusEqual = 19
place sign.StarEqual = 20
place sign.Ampersand = 38
place sign.SlashSlash = 21
place sign.Assign = 39
place sign.ColonEqual = 22
place sign.CaretEqual = 23
place sign.CaretColonEqual = 3
place sign.AssignDot = 24
place sign.SlashColon = 25
place sign.Semicolon = 40
place sign.PlusPlus = 4
place sign.MinusMinus = 5
place sign.OpenParen = 41
place sign.CloseParen = 42
place sign.OpenBracket = 43
place sign.CloseBracket = 44
place sign.OpenBrace = 45
place sign.CloseBrace = 46
place sign.Comma = 47

at_place : (s : Sign) → nth (place s) signs ≡ Some s
at_place sign.Query = refl
at_place sign.At = refl
at_place sign.SlashAt = refl
at_place sign.AtAt = refl
at_place sign.Caret = refl
at_place sign.Slash = refl
at_place sign.Star = refl
at_place sign.Plus = refl
at_place sign.Minus = refl
at_place sign.EqualEqual = refl
at_place sign.BangEqual = refl
at_place sign.Less = refl
at_place sign.LessEqual = refl
at_place sign.Greater = refl
at_place sign.GreaterEqual = refl
at_place sign.SameSign = refl
at_place sign.UnsameSign = refl
at_place sign.Bang = refl
at_place sign.AndAnd = refl
at_place sign.BarBar = refl
at_place sign.Bar = refl
at_place sign.Colon = refl
at_place sign.SlashSemicolon = refl
at_place sign.Arrow = refl
at_place sign.ColonGreater = refl
at_place sign.SlashDot = refl
at_place sign.SlashSlashDot = refl
at_place sign.PlusEqual = refl
at_place sign.MinusEqual = refl
at_place sign.StarEqual = refl
at_place sign.Ampersand = refl
at_place sign.SlashSlash = refl
at_place sign.Assign = refl
at_place sign.ColonEqual = refl
at_place sign.CaretEqual = refl
at_place sign.CaretColonEqual = refl
at_place sign.AssignDot = refl
at_place sign.SlashColon = refl
at_place sign.Semicolon = refl
at_place sign.PlusPlus = refl
at_place sign.MinusMinus = refl
at_place sign.OpenParen = refl
at_place sign.CloseParen = refl
at_place sign.OpenBracket = refl
at_place sign.CloseBracket = refl
at_place sign.OpenBrace = refl
at_place sign.CloseBrace = refl
at_place sign.Comma = refl

-- none of these is longer and begins with the text
abbrev no_longer : List ℕ → List Sign → Bool
no_longer t [] = true
no_longer t (x ∷ xs) = (not (begins_with t (sign_text x)) || leb (length (sign_text x)) (length t)) && no_longer t xs

abbrev in_order : List Sign → Bool
in_order [] = true
in_order (s ∷ ss) = no_longer (sign_text s) ss && in_order ss

signs_in_order : in_order signs ≡ true
signs_in_order = refl

not_longer : (t : List ℕ) (ss : List Sign) (k : ℕ) (x : Sign) → no_longer t ss ≡ true → nth k ss ≡ Some x → begins_with t (sign_text x) ≡ true → length (sign_text x) ≤ length t
not_longer t [] k x o n b = absurd (nothing k n)
  where
    nothing : (k : ℕ) → nth k [] ≡ Some x → ⊥
    nothing zero n = cc
    nothing (suc k) n = cc
not_longer t (s ∷ ss) zero x o n b =
    let q : s ≡ x = cc in
    let p = both_true (not (begins_with t (sign_text s)) || leb (length (sign_text s)) (length t)) (no_longer t ss) o in
    let r : (not (begins_with t (sign_text x)) || leb (length (sign_text x)) (length t)) ≡ true = subst (λ (y : Sign). (not (begins_with t (sign_text y)) || leb (length (sign_text y)) (length t)) ≡ true) q p.0 in
    ⊎_elim (λ (h : not (begins_with t (sign_text x)) ≡ true). absurd (true≢false (sym h ∙ ap not b)))
    (λ (h : leb (length (sign_text x)) (length t) ≡ true). leb-true (length (sign_text x)) (length t) h)
    (either_true (not (begins_with t (sign_text x))) (leb (length (sign_text x)) (length t)) r)
not_longer t (s ∷ ss) (suc k) x o n b = not_longer t ss k x (both_true (not (begins_with t (sign_text s)) || leb (length (sign_text s)) (length t)) (no_longer t ss) o).1 n b

-- the first sign that the text begins with is the longest
data Chosen (ss : List Sign) (cs : List ℕ) (r : Scan) : Type 0 where
  found : (s : Sign) (rest : List ℕ) → cs ≡ sign_text s ++ rest → r ≡ Takes Kind.Operator (length (sign_text s)) →
      ((k : ℕ) (x : Sign) → nth k ss ≡ Some x → begins_with (sign_text x) cs ≡ true → length (sign_text x) ≤ length (sign_text s)) → Chosen ss cs r
  missing : r ≡ Faults tok.BadByte 0 → ((k : ℕ) (x : Sign) → nth k ss ≡ Some x → begins_with (sign_text x) cs ≡ true → ⊥) → Chosen ss cs r

longer_is_before : (s x : Sign) (ss : List Sign) (k : ℕ) (cs : List ℕ) → no_longer (sign_text s) ss ≡ true → nth k ss ≡ Some x → begins_with (sign_text s) cs ≡ true → begins_with (sign_text x) cs ≡ true →
    length (sign_text x) ≤ length (sign_text s)
longer_is_before s x ss k cs o n a b =
    let f = begins_split (sign_text s) cs a in
    let g = begins_split (sign_text x) cs b in
    go f g (leb (length (sign_text x)) (length (sign_text s))) refl
  where
    go : Front (sign_text s) cs → Front (sign_text x) cs → (t : Bool) → leb (length (sign_text x)) (length (sign_text s)) ≡ t → length (sign_text x) ≤ length (sign_text s)
    go f g true e = leb-true (length (sign_text x)) (length (sign_text s)) e
    go f g false e =
        let l = leb-false (length (sign_text x)) (length (sign_text s)) e in
        not_longer (sign_text s) ss k x o n (begins_front (sign_text s) (sign_text x) f.rest g.rest (sym f.whole ∙ g.whole) (omega (arith, l)))

chosen : (ss : List Sign) (cs : List ℕ) → in_order ss ≡ true → Chosen ss cs (operator_in ss cs)
chosen [] cs o = missing refl none
  where
    none : (k : ℕ) (x : Sign) → nth k [] ≡ Some x → begins_with (sign_text x) cs ≡ true → ⊥
    none zero x n b = cc
    none (suc k) x n b = cc
chosen (s ∷ ss) cs o = go (begins_with (sign_text s) cs) refl (chosen ss cs (both_true (no_longer (sign_text s) ss) (in_order ss) o).1)
  where
    go : (b : Bool) → begins_with (sign_text s) cs ≡ b → Chosen ss cs (operator_in ss cs) → Chosen (s ∷ ss) cs (elim b [ true ↦ Takes Kind.Operator (length (sign_text s)) | false ↦ operator_in ss cs ])
    go true e next = let f = begins_split (sign_text s) cs e in found s f.rest f.whole refl most
      where
        most : (k : ℕ) (x : Sign) → nth k (s ∷ ss) ≡ Some x → begins_with (sign_text x) cs ≡ true → length (sign_text x) ≤ length (sign_text s)
        most zero x n b = let q : s ≡ x = cc in subst (λ (y : Sign). length (sign_text y) ≤ length (sign_text s)) q (omega arith)
        most (suc k) x n b = longer_is_before s x ss k cs (both_true (no_longer (sign_text s) ss) (in_order ss) o).0 n e b
    go false e (found y rest w r most) = found y rest w r all_most
      where
        all_most : (k : ℕ) (x : Sign) → nth k (s ∷ ss) ≡ Some x → begins_with (sign_text x) cs ≡ true → length (sign_text x) ≤ length (sign_text y)
        all_most zero x n b = let q : s ≡ x = cc in absurd (true≢false (sym b ∙ ap (λ (z : Sign). begins_with (sign_text z) cs) (sym q) ∙ e))
        all_most (suc k) x n b = most k x n b
    go false e (missing r none) = missing r all_none
      where
        all_none : (k : ℕ) (x : Sign) → nth k (s ∷ ss) ≡ Some x → begins_with (sign_text x) cs ≡ true → ⊥
        all_none zero x n b = let q : s ≡ x = cc in true≢false (sym b ∙ ap (λ (z : Sign). begins_with (sign_text z) cs) (sym q) ∙ e)
        all_none (suc k) x n b = none k x n b

-- ---- what stands there

-- no part but a sign begins so
only_signs : (c : ℕ) (cs : List ℕ) → begins_with (codes "(*") (c ∷ cs) ≡ false → (inside t u : List ℕ) → c ∷ cs ≡ t ++ u → t ≡ codes "(*" ++ inside → ⊥
only_signs c cs n inside t u w e =
    let h : c ∷ cs ≡ 40 ∷ 42 ∷ (inside ++ u) = w ∙ ap (λ (xs : List ℕ). xs ++ u) e in
    true≢false (sym (ap (begins_with (40 ∷ 42 ∷ [])) h) ∙ n)

sign_begins : (t u cs : List ℕ) (i : IsSign t) → cs ≡ t ++ u → begins_with (sign_text i.sign) cs ≡ true
sign_begins t u cs i w =
    ap (begins_with (sign_text i.sign)) (w ∙ ap (λ (xs : List ℕ). xs ++ u) i.is) ∙ begins_join (sign_text i.sign) u

operator_bound : (c : ℕ) (cs : List ℕ) (k : ℕ) → begins_with (codes "(*") (c ∷ cs) ≡ false →
    ((j : ℕ) (x : Sign) → nth j signs ≡ Some x → begins_with (sign_text x) (c ∷ cs) ≡ true → length (sign_text x) ≤ k) →
    (q : Part) (t u : List ℕ) → c ∷ cs ≡ t ++ u → can_be Other q ≡ true → IsPart q t → length t ≤ k
operator_bound c cs k n most (Whole Kind.Operator) t u w e i =
    let h = most (place i.sign) i.sign (at_place i.sign) (sign_begins t u (c ∷ cs) i w) in
    let l = ap length i.is in
    omega (arith, h, l)
operator_bound c cs k n most of.Comment t u w e i = absurd (only_signs c cs n i.inside t u w i.is)
operator_bound c cs k n most of.OpenComment t u w e i = absurd (only_signs c cs n i.inside t u w i.is)
operator_bound c cs k n most _ t u w e i = absurd (true≢false (sym e))

-- each part has a byte
no_hash : (marks number : List ℕ) → IsHash marks → [] ≡ marks ++ number → ⊥
no_hash marks number one e = let l = ap length e in omega (arith, l)
no_hash marks number two e = let l = ap length e in omega (arith, l)

no_sign : (s : Sign) → [] ≡ sign_text s → ⊥
no_sign s e = let h : White ≡ Other = ap begins_other e ∙ sign_other s in cc

pub no_part : (q : Part) → IsPart q [] → ⊥
no_part (Whole Kind.Number) i = let h = i.digits.some in omega (arith, h)
no_part (Whole Kind.Name) i = true≢false (sym i)
no_part (Whole Kind.Blank) i = let l = ap length i.is in let m = length-append i.before (i.marks ++ i.behind) in let k = length-append i.marks i.behind in let s = i.some in omega (arith, l, m, k, s)
no_part (Whole Kind.Str) i = let l = ap length i.is in omega (arith, l)
no_part (Whole Kind.Slot) i = no_hash i.marks i.number i.hash i.is
no_part (Whole Kind.Operator) i = no_sign i.sign i.is
no_part of.Space i = let l = ap length i.is in omega (arith, l)
no_part of.Comment i = let l = ap length i.is in omega (arith, l)
no_part of.Wide i = let h = i.digits.some in omega (arith, h)
no_part of.BadSlot i = no_hash i.marks i.number i.hash i.is
no_part of.OpenString i = let l = ap length i.is in omega (arith, l)
no_part of.BadEscape i = let l = ap length i.is in omega (arith, l)
no_part of.OpenComment i = let l = ap length i.is in omega (arith, l)

pub part_some : (q : Part) (t : List ℕ) → IsPart q t → 0 < length t
part_some q [] i = absurd (no_part q i)
part_some q (c ∷ t) i = omega arith

operator_none : (c : ℕ) (cs : List ℕ) → first c ≡ Other → begins_with (codes "(*") (c ∷ cs) ≡ false →
    ((j : ℕ) (x : Sign) → nth j signs ≡ Some x → begins_with (sign_text x) (c ∷ cs) ≡ true → ⊥) → HasNone (c ∷ cs)
operator_none c cs f n none q [] u w i = no_part q i
operator_none c cs f n none q (d ∷ t) u w i =
    let b = operator_bound c cs 0 n (λ j x h g. absurd (none j x h g)) q (d ∷ t) u w (ap (λ x. can_be x q) (sym f ∙ head_is c d cs (t ++ u) w) ∙ part_can q d t i) i in
    omega (arith, b)

pub operator_stands : (c : ℕ) (cs : List ℕ) → first c ≡ Other → begins_with (codes "(*") (c ∷ cs) ≡ false → Stands (c ∷ cs) (operator_in signs (c ∷ cs))
operator_stands c cs f n = go (chosen signs (c ∷ cs) signs_in_order)
  where
    go : Chosen signs (c ∷ cs) (operator_in signs (c ∷ cs)) → Stands (c ∷ cs) (operator_in signs (c ∷ cs))
    go (found s rest w r most) =
        stands (Whole Kind.Operator) (sign_text s) rest
        (longest_by c cs Other f (Whole Kind.Operator) (sign_text s) rest w (record { sign = s; is = refl }) (operator_bound c cs (length (sign_text s)) n most))
        r
    go (missing r none) = strange (operator_none c cs f n none) r
