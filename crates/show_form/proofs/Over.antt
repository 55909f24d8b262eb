-- One character more.
use Rattle.std.proofs.Common.{◌≡◌, ◌≢◌, refl, sym, ap, subst, ◌∙◌, ℕ, suc, ◌+◌, ◌/◌, ◌%◌, ◌≤◌, ◌<◌, Bool, true, false, cond, ltb, List, [], ◌∷◌, ◌++◌, length, take, append_assoc, Option, Some, None, option_and_then, arith, ne_eqb, lt-ltb}
use Rattle.std.specs.Prelude.{◌==◌, leb, ◌&&◌, ◌||◌}
use Rattle.std.proofs.lemmas.Bool.{lt-leb, le-ltb}
use Rattle.std.specs.Char.{encode_utf8}
use Rattle.script_text.specs.Bytes.{begins_name, is_digit}
use Rattle.show_form.specs.declared.class.Class.{Class}
use Rattle.show_form.specs.declared.class.Class.TheVariants as cl
use Rattle.show_form.specs.declared.frame.Frame.{Frame}
use Rattle.show_form.specs.declared.mode.Mode.{Mode}
use Rattle.show_form.specs.declared.mode.Mode.TheVariants as mo
use Rattle.script_text.specs.Reader.{class_by}
use Rattle.show_form.specs.Classes.{kind, kind_of}
use Rattle.show_form.specs.Faults.{IsAfter}
use Rattle.show_form.specs.Steps.{State, in_text, in_string, escape, step, step_by, run, with_mode, plain_text}

pub run_one : (find : List ℕ → ℕ) (c : ℕ) (s : State) → run find (c ∷ []) s ≡ step find c s
run_one find c s = go (step find c s)
  where
    go : (o : Option State) → option_and_then (run find []) o ≡ o
    go None = refl
    go (Some t) = refl

-- an ASCII character is one byte
pub ascii_is : (c : ℕ) → c < 128 → encode_utf8 c ≡ c ∷ []
unfolding encode_utf8
ascii_is c h = rw (lt-ltb c 128 h) refl

pub after_ascii : (find : List ℕ → ℕ) (c : ℕ) (s : State) (o : Option State) → c < 128 → o ≡ step find c s → IsAfter find (encode_utf8 c) s o
after_ascii find c s o h e = rw (ascii_is c h) (go o e)
  where
    go : (o : Option State) → o ≡ step find c s → IsAfter find (c ∷ []) s o
    go None e = run_one find c s ∙ sym e
    go (Some t) e = run_one find c s ∙ sym e

-- ---- other characters

high_class : (b : ℕ) → 128 ≤ b → kind_of b ≡ cl.Other
high_class b h =
    let e1 : leb b 122 ≡ false = lt-leb b 122 (omega arith) in
    let e2 : leb b 90 ≡ false = lt-leb b 90 (omega arith) in
    let e3 : leb b 57 ≡ false = lt-leb b 57 (omega arith) in
    let e4 : (b == 36) ≡ false = ne_eqb b 36 (omega arith) in
    let e5 : (b == 45) ≡ false = ne_eqb b 45 (omega arith) in
    let e6 : (b == 34) ≡ false = ne_eqb b 34 (omega arith) in
    let e7 : (b == 91) ≡ false = ne_eqb b 91 (omega arith) in
    let e8 : (b == 93) ≡ false = ne_eqb b 93 (omega arith) in
    let e9 : (b == 44) ≡ false = ne_eqb b 44 (omega arith) in
    let e10 : (b == 32) ≡ false = ne_eqb b 32 (omega arith) in
    rw (letter e1 e2 e4, digit e3, e5, e6, e7, e8, e9, e10) refl
  where
    go : (p q : Bool) → (((p && false) || (q && false)) || false) ≡ false
    go true true = refl
    go true false = refl
    go false true = refl
    go false false = refl

    only : (p : Bool) → (p && false) ≡ false
    only true = refl
    only false = refl

    letter : leb b 122 ≡ false → leb b 90 ≡ false → (b == 36) ≡ false → begins_name b ≡ false
    letter p q r = rw (p, q, r) (go (leb 97 b) (leb 65 b))

    digit : leb b 57 ≡ false → is_digit b ≡ false
    digit p = rw p (only (leb 48 b))

high_plain : (s : List ℕ) (b : ℕ) → 128 ≤ b → in_text false s b ≡ Some (mo.InString false (s ++ (b ∷ [])))
high_plain s b h =
    let e1 : (b == 34) ≡ false = ne_eqb b 34 (omega arith) in
    let e2 : (b == 92) ≡ false = ne_eqb b 92 (omega arith) in
    let e3 : (b == 10) ≡ false = ne_eqb b 10 (omega arith) in
    let e4 : (b == 9) ≡ false = ne_eqb b 9 (omega arith) in
    rw (e1, e2, e3, e4) refl

high_escape : (s : List ℕ) (b : ℕ) → 128 ≤ b → in_text true s b ≡ None
high_escape s b h =
    let e1 : (b == 34) ≡ false = ne_eqb b 34 (omega arith) in
    let e2 : (b == 92) ≡ false = ne_eqb b 92 (omega arith) in
    let e3 : (b == 110) ≡ false = ne_eqb b 110 (omega arith) in
    let e4 : (b == 116) ≡ false = ne_eqb b 116 (omega arith) in
    rw (e1, e2, e3, e4) refl

abbrev pub AllHigh : List ℕ → Type 0
AllHigh [] = Unit {0}
AllHigh (b ∷ bs) = (128 ≤ b) × AllHigh bs

string_high : (find : List ℕ → ℕ) (frames : List Frame) (s bs : List ℕ) → AllHigh bs → run find bs (frames, mo.InString false s) ≡ Some (frames, mo.InString false (s ++ bs))
string_high find frames s [] h = ap (λ v. Some (frames, mo.InString false v)) (sym (append_nil_of s))
  where
    append_nil_of : (v : List ℕ) → v ++ [] ≡ v
    append_nil_of [] = refl
    append_nil_of (x ∷ v) = ap (λ w. x ∷ w) (append_nil_of v)
string_high find frames s (b ∷ bs) h =
    ap (λ o. option_and_then (run find bs) (with_mode frames o)) (high_plain s b h.0)
    ∙ string_high find frames (s ++ (b ∷ [])) bs h.1
    ∙ ap (λ v. Some (frames, mo.InString false v)) (append_assoc s (b ∷ []) bs)

pub record IsWide (bs : List ℕ) : Type 0 where
  pub first : ℕ
  pub others : List ℕ
  pub is : bs ≡ first ∷ others
  pub high : AllHigh (first ∷ others)

pub wide_is : (c : ℕ) → 128 ≤ c → IsWide (encode_utf8 c)
unfolding encode_utf8
wide_is c h = go (ltb c 128) (ltb c 2048) (ltb c 65536) (lt_no c h)
  where
    lt_no : (c : ℕ) → 128 ≤ c → ltb c 128 ≡ false
    lt_no c h = le-ltb c 128 h

    next : ℕ → ℕ
    next k = 128 + k % 64

    go : (x y z : Bool) → x ≡ false →
        IsWide (cond x (c ∷ []) (cond y ((192 + c / 64) ∷ next c ∷ []) (cond z ((224 + c / 4096) ∷ next (c / 64) ∷ next c ∷ []) ((240 + c / 262144) ∷ next (c / 4096) ∷ next (c / 64) ∷ next c ∷ []))))
    go true y z e = cc
    go false true z e = record { first = 192 + c / 64; others = next c ∷ []; is = refl; high = (omega arith, (omega arith, tt)) }
    go false false true e = record { first = 224 + c / 4096; others = next (c / 64) ∷ next c ∷ []; is = refl; high = (omega arith, (omega arith, (omega arith, tt))) }
    go false false false e = record { first = 240 + c / 262144; others = next (c / 4096) ∷ next (c / 64) ∷ next c ∷ []; is = refl; high = (omega arith, (omega arith, (omega arith, (omega arith, tt)))) }

wide_in_string : (find : List ℕ → ℕ) (frames : List Frame) (c : ℕ) (s : List ℕ) → 128 ≤ c
    → run find (encode_utf8 c) (frames, mo.InString false s) ≡ Some (frames, mo.InString false (s ++ encode_utf8 c))
wide_in_string find frames c s h =
    let w = wide_is c h in
    string_high find frames s (encode_utf8 c) (subst AllHigh (sym w.is) w.high)

pub wide_goes_on : (find : List ℕ → ℕ) (frames : List Frame) (m : Mode) (c : ℕ) (s : List ℕ) → 128 ≤ c → plain_text m ≡ Some s
    → IsAfter find (encode_utf8 c) (frames, m) (Some (frames, mo.InString false (s ++ encode_utf8 c)))
wide_goes_on find frames (mo.InString true t) c s h e = cc
wide_goes_on find frames (mo.InString false t) c s h e =
    let p : t ≡ s = cc in
    subst (λ v. run find (encode_utf8 c) (frames, mo.InString false t) ≡ Some (frames, mo.InString false (v ++ encode_utf8 c))) p (wide_in_string find frames c t h)
wide_goes_on find frames (mo.Starts closes) c s h e = cc
wide_goes_on find frames mo.Gap c s h e = cc
wide_goes_on find frames mo.Minus c s h e = cc
wide_goes_on find frames (mo.Number w) c s h e = cc
wide_goes_on find frames (mo.Name w) c s h e = cc
wide_goes_on find frames (mo.Have k) c s h e = cc

high_step : (find : List ℕ → ℕ) (frames : List Frame) (m : Mode) (b : ℕ) → 128 ≤ b → plain_text m ≡ None → step find b (frames, m) ≡ None
high_step find frames m b h n = ap (λ k. step_by find b k frames m) (high_class b h) ∙ go m n
  where
    go : (m : Mode) → plain_text m ≡ None → step_by find b cl.Other frames m ≡ None
    go (mo.Starts closes) n = refl
    go mo.Gap n = refl
    go mo.Minus n = refl
    go (mo.Number w) n = refl
    go (mo.Name w) n = refl
    go (mo.InString true s) n = ap (with_mode frames) (high_escape s b h)
    go (mo.InString false s) n = cc
    go (mo.Have k) n = refl

pub wide_stops : (find : List ℕ → ℕ) (frames : List Frame) (m : Mode) (c : ℕ) → 128 ≤ c → plain_text m ≡ None → IsAfter find (encode_utf8 c) (frames, m) None
wide_stops find frames m c h n =
    let w = wide_is c h in
    ap (λ v. run find (take 1 v) (frames, m)) w.is ∙ run_one find w.first (frames, m) ∙ high_step find frames m w.first w.high.0 n
