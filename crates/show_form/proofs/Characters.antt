-- The escapes of a string, a character at a time.
use Rattle.std.proofs.Common.{◌≡◌, ◌≢◌, refl, sym, ap, ◌∙◌, ℕ, suc, ◌+◌, ◌/◌, ◌%◌, ◌≤◌, ◌<◌, Bool, true, false, cond, ltb, List, [], ◌∷◌, ◌++◌, length, get_or, drop, append_assoc, drop-cons, add-one, arith, ne_eqb}
use Rattle.std.specs.Prelude.{◌==◌}
use Rattle.std.specs.Char.{encode_utf8}
use Rattle.std.specs.Str.{chars, encode_utf8_all, IsUtf8}
use Rattle.std.proofs.lemmas.Str.{chars-encodes}
use Rattle.script_text.specs.Full.{escaped, all_escaped}

plain_byte : (b : ℕ) → b ≢ 34 → b ≢ 92 → b ≢ 10 → b ≢ 9 → escaped b ≡ b ∷ []
plain_byte b p q r s =
    let e1 : (b == 34) ≡ false = ne_eqb b 34 p in
    let e2 : (b == 92) ≡ false = ne_eqb b 92 q in
    let e3 : (b == 10) ≡ false = ne_eqb b 10 r in
    let e4 : (b == 9) ≡ false = ne_eqb b 9 s in
    rw (e1, e2, e3, e4) refl

high_byte : (b : ℕ) → 128 ≤ b → escaped b ≡ b ∷ []
high_byte b h = plain_byte b (omega arith) (omega arith) (omega arith) (omega arith)

pub plain_char : (c : ℕ) → c ≢ 34 → c ≢ 92 → c ≢ 10 → c ≢ 9 → all_escaped (encode_utf8 c) ≡ encode_utf8 c
unfolding encode_utf8
plain_char c p q r s = go (ltb c 128) (ltb c 2048) (ltb c 65536)
  where
    next : ℕ → ℕ
    next k = 128 + k % 64

    go : (x y z : Bool) →
        all_escaped (cond x (c ∷ []) (cond y ((192 + c / 64) ∷ next c ∷ []) (cond z ((224 + c / 4096) ∷ next (c / 64) ∷ next c ∷ []) ((240 + c / 262144) ∷ next (c / 4096) ∷ next (c / 64) ∷ next c ∷ []))))
        ≡ cond x (c ∷ []) (cond y ((192 + c / 64) ∷ next c ∷ []) (cond z ((224 + c / 4096) ∷ next (c / 64) ∷ next c ∷ []) ((240 + c / 262144) ∷ next (c / 4096) ∷ next (c / 64) ∷ next c ∷ [])))
    go true y z = rw (plain_byte c p q r s) refl
    go false true z = rw (high_byte (192 + c / 64) (omega arith), high_byte (next c) (omega arith)) refl
    go false false true = rw (high_byte (224 + c / 4096) (omega arith), high_byte (next (c / 64)) (omega arith), high_byte (next c) (omega arith)) refl
    go false false false =
        rw (high_byte (240 + c / 262144) (omega arith), high_byte (next (c / 4096)) (omega arith), high_byte (next (c / 64)) (omega arith), high_byte (next c) (omega arith)) refl

pub quote_char : all_escaped (encode_utf8 34) ≡ 92 ∷ 34 ∷ []
unfolding encode_utf8
quote_char = refl

pub backslash_char : all_escaped (encode_utf8 92) ≡ 92 ∷ 92 ∷ []
unfolding encode_utf8
backslash_char = refl

pub feed_char : all_escaped (encode_utf8 10) ≡ 92 ∷ 110 ∷ []
unfolding encode_utf8
feed_char = refl

pub tab_char : all_escaped (encode_utf8 9) ≡ 92 ∷ 116 ∷ []
unfolding encode_utf8
tab_char = refl

pub ruleset char_steps = (plain_char, quote_char, backslash_char, feed_char, tab_char)

pub escaped-append : (s t : List ℕ) → all_escaped (s ++ t) ≡ all_escaped s ++ all_escaped t
escaped-append [] t = refl
escaped-append (c ∷ s) t = ap (λ v. escaped c ++ v) (escaped-append s t) ∙ sym (append_assoc (escaped c) (all_escaped s) (all_escaped t))

-- what is left of the characters from the n-th on
pub chars_step : (cs : List ℕ) (n c : ℕ) → n < length cs → c ≡ get_or cs n c
    → all_escaped (encode_utf8_all (drop n cs)) ≡ all_escaped (encode_utf8 c) ++ all_escaped (encode_utf8_all (drop (n + 1) cs))
chars_step cs n c h is =
    let e : drop n cs ≡ c ∷ drop (n + 1) cs = rw (drop-cons cs n c h, add-one) (ap (λ u. u ∷ drop (suc n) cs) (sym is)) in
    ap (λ v. all_escaped (encode_utf8_all v)) e ∙ escaped-append (encode_utf8 c) (encode_utf8_all (drop (n + 1) cs))

pub spelled_chars : (bs : List ℕ) → IsUtf8 bs → encode_utf8_all (chars bs) ≡ bs
spelled_chars bs u = ap (λ v. encode_utf8_all (chars v)) (sym u.1.1) ∙ ap encode_utf8_all (chars-encodes u.0 u.1.0) ∙ u.1.1
