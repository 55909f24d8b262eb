-- The escapes of a string, a character at a time.
use Rattle.std.proofs.Common.{◌≡◌, ◌≢◌, refl, sym, ap, ap₂, ◌∙◌, ℕ, suc, ◌+◌, ◌/◌, ◌%◌, ◌≤◌, ◌<◌, Bool, true, false, cond, ltb, List, [], ◌∷◌, ◌++◌, length, get_or, drop, append-nil, drop_of_length-le, drop-cons, add-one, arith, ne_eqb}
use Rattle.std.specs.Prelude.{◌==◌}
use Rattle.std.specs.Char.{encode_utf8}
use Rattle.std.specs.Str.{chars, encode_utf8_all, IsUtf8}
use Rattle.std.proofs.lemmas.Str.{chars-encodes}
use Rattle.syntax.specs.Leaves.{unescaped, unescaped_byte}

plain_byte : (b : ℕ) (rest : List ℕ) → b ≢ 34 → b ≢ 92 → unescaped false (b ∷ rest) ≡ b ∷ unescaped false rest
plain_byte b rest p q =
    ap (λ (x : Bool). elim x as (λ _. List ℕ) [ true ↦ [] | false ↦ elim (b == 92) as (λ _. List ℕ) [ true ↦ unescaped true rest | false ↦ b ∷ unescaped false rest ] ]) (ne_eqb b 34 p)
    ∙ ap (λ (x : Bool). elim x as (λ _. List ℕ) [ true ↦ unescaped true rest | false ↦ b ∷ unescaped false rest ]) (ne_eqb b 92 q)

escaped_byte : (b : ℕ) (rest : List ℕ) → b ≢ 110 → b ≢ 116 → unescaped true (b ∷ rest) ≡ b ∷ unescaped false rest
escaped_byte b rest p q = ap₂ (λ (x y : Bool). unescaped_byte x y b ∷ unescaped false rest) (ne_eqb b 110 p) (ne_eqb b 116 q)

-- the bytes of a character behind the first are as they are
abbrev Passes : Bool → ℕ → Type 0
Passes escape b = (rest : List ℕ) → unescaped escape (b ∷ rest) ≡ b ∷ unescaped false rest

high : (escape : Bool) (b : ℕ) → 128 ≤ b → Passes escape b
high true b h rest = escaped_byte b rest (omega arith) (omega arith)
high false b h rest = plain_byte b rest (omega arith) (omega arith)

char_passes : (escape : Bool) (c : ℕ) (rest : List ℕ) → Passes escape c → unescaped escape (encode_utf8 c ++ rest) ≡ encode_utf8 c ++ unescaped false rest
unfolding encode_utf8
char_passes escape c rest here = go (ltb c 128) (ltb c 2048) (ltb c 65536)
  where
    next : ℕ → ℕ
    next k = 128 + k % 64

    go : (x y z : Bool) →
        unescaped escape (cond x (c ∷ []) (cond y ((192 + c / 64) ∷ next c ∷ []) (cond z ((224 + c / 4096) ∷ next (c / 64) ∷ next c ∷ []) ((240 + c / 262144) ∷ next (c / 4096) ∷ next (c / 64) ∷ next c ∷ []))) ++ rest)
        ≡ cond x (c ∷ []) (cond y ((192 + c / 64) ∷ next c ∷ []) (cond z ((224 + c / 4096) ∷ next (c / 64) ∷ next c ∷ []) ((240 + c / 262144) ∷ next (c / 4096) ∷ next (c / 64) ∷ next c ∷ []))) ++ unescaped false rest
    go true y z = here rest
    go false true z = high escape (192 + c / 64) (omega arith) (next c ∷ rest) ∙ ap (λ (u : List ℕ). (192 + c / 64) ∷ u) (high false (next c) (omega arith) rest)
    go false false true =
        high escape (224 + c / 4096) (omega arith) (next (c / 64) ∷ next c ∷ rest)
        ∙ ap (λ (u : List ℕ). (224 + c / 4096) ∷ u) (high false (next (c / 64)) (omega arith) (next c ∷ rest) ∙ ap (λ (u : List ℕ). next (c / 64) ∷ u) (high false (next c) (omega arith) rest))
    go false false false =
        high escape (240 + c / 262144) (omega arith) (next (c / 4096) ∷ next (c / 64) ∷ next c ∷ rest)
        ∙ ap (λ (u : List ℕ). (240 + c / 262144) ∷ u) (high false (next (c / 4096)) (omega arith) (next (c / 64) ∷ next c ∷ rest)
        ∙ ap (λ (u : List ℕ). next (c / 4096) ∷ u) (high false (next (c / 64)) (omega arith) (next c ∷ rest) ∙ ap (λ (u : List ℕ). next (c / 64) ∷ u) (high false (next c) (omega arith) rest)))

pub plain_char : (c : ℕ) (rest : List ℕ) → c ≢ 34 → c ≢ 92 → unescaped false (encode_utf8 c ++ rest) ≡ encode_utf8 c ++ unescaped false rest
plain_char c rest p q = char_passes false c rest (λ more. plain_byte c more p q)

pub escaped_char : (c : ℕ) (rest : List ℕ) → c ≢ 110 → c ≢ 116 → unescaped true (encode_utf8 c ++ rest) ≡ encode_utf8 c ++ unescaped false rest
escaped_char c rest p q = char_passes true c rest (λ more. escaped_byte c more p q)

pub feed_char : (rest : List ℕ) → unescaped true (encode_utf8 110 ++ rest) ≡ encode_utf8 10 ++ unescaped false rest
unfolding encode_utf8
feed_char rest = refl

pub tab_char : (rest : List ℕ) → unescaped true (encode_utf8 116 ++ rest) ≡ encode_utf8 9 ++ unescaped false rest
unfolding encode_utf8
tab_char rest = refl

pub backslash_char : (rest : List ℕ) → unescaped false (encode_utf8 92 ++ rest) ≡ unescaped true rest
unfolding encode_utf8
backslash_char rest = refl

pub quote_char : (rest : List ℕ) → unescaped false (encode_utf8 34 ++ rest) ≡ []
unfolding encode_utf8
quote_char rest = refl

pub ruleset escape_steps = (plain_char, escaped_char, feed_char, tab_char, backslash_char, quote_char)

-- the characters from the n-th on
pub chars_next : (cs : List ℕ) (n c : ℕ) → n < length cs → c ≡ get_or cs n c → encode_utf8_all (drop n cs) ≡ encode_utf8 c ++ encode_utf8_all (drop (n + 1) cs)
chars_next cs n c h is =
    let e : drop n cs ≡ c ∷ drop (n + 1) cs = rw (drop-cons cs n c h, add-one) (ap (λ u. u ∷ drop (suc n) cs) (sym is)) in
    ap encode_utf8_all e

pub spelled_chars : (bs : List ℕ) → IsUtf8 bs → encode_utf8_all (chars bs) ≡ bs
spelled_chars bs u = ap (λ v. encode_utf8_all (chars v)) (sym u.1.1) ∙ ap encode_utf8_all (chars-encodes u.0 u.1.0) ∙ u.1.1

pub string_goes_on : (text text' : List ℕ) (escape escape' : Bool) (cs : List ℕ) (n m c : ℕ) (all : List ℕ) → n < length cs → c ≡ get_or cs n c → m ≡ n + 1 →
    ((rest : List ℕ) → text' ++ unescaped escape' rest ≡ text ++ unescaped escape (encode_utf8 c ++ rest)) → text ++ unescaped escape (encode_utf8_all (drop n cs)) ≡ all →
    text' ++ unescaped escape' (encode_utf8_all (drop m cs)) ≡ all
string_goes_on text text' escape escape' cs n m c all h is e next so_far =
    ap (λ k. text' ++ unescaped escape' (encode_utf8_all (drop k cs))) e ∙ next (encode_utf8_all (drop (n + 1) cs))
    ∙ ap (λ (u : List ℕ). text ++ unescaped escape u) (sym (chars_next cs n c h is)) ∙ so_far

pub string_closes : (text : List ℕ) (escape : Bool) (cs : List ℕ) (n c : ℕ) (all : List ℕ) → n < length cs → c ≡ get_or cs n c → escape ≡ false → c ≡ 34 →
    text ++ unescaped escape (encode_utf8_all (drop n cs)) ≡ all → text ≡ all
string_closes text escape cs n c all h is e q so_far =
    sym (append-nil text)
    ∙ ap (λ (u : List ℕ). text ++ u) (sym (ap₂ (λ (b : Bool) (k : ℕ). unescaped b (encode_utf8 k ++ encode_utf8_all (drop (n + 1) cs))) e q ∙ quote_char (encode_utf8_all (drop (n + 1) cs))))
    ∙ ap (λ (u : List ℕ). text ++ unescaped escape u) (sym (chars_next cs n c h is)) ∙ so_far

pub string_ends : (text : List ℕ) (escape : Bool) (cs : List ℕ) (n : ℕ) (all : List ℕ) → length cs ≤ n → text ++ unescaped escape (encode_utf8_all (drop n cs)) ≡ all → text ≡ all
string_ends text escape cs n all h so_far =
    sym (append-nil text) ∙ ap (λ (u : List ℕ). text ++ unescaped escape (encode_utf8_all u)) (sym (drop_of_length-le cs h)) ∙ so_far
