-- Cells and names, step by step.
use Rattle.std.proofs.Common.{◌≡◌, ◌∙◌, refl, sym, ap, ℕ, suc, ◌+◌, ◌-◌, ◌<◌, ◌≤◌, List, [], ◌∷◌, ◌++◌, map, length, take, drop, arith, append_assoc, length-drop}
use Rattle.std.proofs.lemmas.List.{drop-drop, map-append, length-take-le}
use Rattle.std.proofs.lemmas.Str.{IsUtf8-from_ascii, IsAscii-take, IsAscii-drop}
use Rattle.std.specs.Str.{IsAscii, IsUtf8}
use Rattle.std.specs.Prelude.{◌==◌}
use Rattle.script_text.specs.Bytes.{run, in_name}
use Rattle.script_text.specs.Cells.{cells}
use Rattle.lex_form.specs.declared.cut.Span.{Span}
use Rattle.syntax.specs.Tokens.{Token, nonempty, token_text, blank_names}
use Rattle.lex_form.specs.Shapes.{IsToken, AreTokens}
use Rattle.lex_form.specs.Spans.{span_text, texts_of, IsSpan, AreSpans}

pub spans_more : (text : List ℕ) (spans : List Span) (s : Span) → AreSpans text spans → IsSpan text s → AreSpans text (spans ++ s ∷ [])
spans_more text [] s a b = (b, tt)
spans_more text (r ∷ rs) s (a, more) b = (a, spans_more text rs s more b)

-- one cell more
pub cell_more : (text : List ℕ) (spans : List Span) (from len next : ℕ) → from ≤ length text → len ≤ length (drop from text) → cells (drop from text) ≡ take len (drop from text) ∷ cells (drop (len + 1) (drop from text)) →
    cells (drop next text) ≡ cells (drop (from + len + 1) text) → texts_of text spans ++ cells (drop from text) ≡ cells text →
    texts_of text (spans ++ record { from = from; to = from + len } ∷ []) ++ cells (drop next text) ≡ cells text
cell_more text spans from len next h l e n k =
    let s : Span = record { from = from; to = from + len } in
    let w : span_text text s ≡ take len (drop from text) = ap (λ m. take m (drop from text)) (omega arith) in
    let d : drop (len + 1) (drop from text) ≡ drop (from + len + 1) text = drop-drop (len + 1) from text ∙ ap (λ m. drop m text) (omega arith) in
    ap (λ (ts : List (List ℕ)). ts ++ cells (drop next text)) (map-append (span_text text) spans (s ∷ []))
    ∙ append_assoc (texts_of text spans) (span_text text s ∷ []) (cells (drop next text))
    ∙ ap (λ (ts : List (List ℕ)). texts_of text spans ++ ts) (rw (w, n) (sym (e ∙ ap (λ (t : List ℕ). take len (drop from text) ∷ cells t) d)))
    ∙ k

-- each token by itself
abbrev pub AreAll : List ℕ → List Token → Type 0
AreAll text [] = Unit {0}
AreAll text (t ∷ ts) = IsToken text 0 t × AreAll text ts

pub are_all : (text : List ℕ) (at : ℕ) (ts : List Token) → AreTokens text at ts → AreAll text ts
are_all text at [] a = tt
are_all text at (t ∷ ts) (k, a) = (record { after = omega arith; some = k.some; within = k.within; shape = k.shape }, are_all text t.to ts a)

pub nonempty_some : (t : List ℕ) → 0 < length t → nonempty t ≡ t ∷ []
nonempty_some [] h = absurd (omega arith)
nonempty_some (c ∷ cs) h = refl

pub ascii_utf8 : (bs : List ℕ) → IsAscii bs → IsUtf8 bs
ascii_utf8 bs h = IsUtf8-from_ascii bs h

pub ascii_take : (bs : List ℕ) (n : ℕ) → IsAscii bs → IsAscii (take n bs)
ascii_take bs n h = IsAscii-take bs n h

pub ascii_drop : (bs : List ℕ) (n : ℕ) → IsAscii bs → IsAscii (drop n bs)
ascii_drop bs n h = IsAscii-drop bs n h

pub nonempty_none : nonempty [] ≡ []
nonempty_none = refl

pub ruleset name_steps = (ascii_utf8, nonempty_some, nonempty_none)

pub named_alone : (text : List ℕ) (t : Token) → IsToken text 0 t → nonempty (token_text text t) ≡ token_text text t ∷ []
named_alone text t k =
    let l = length-drop {A = ℕ} t.from text in
    let n = length-take-le (t.to - t.from) (drop t.from text) (omega (arith, l, k.within)) in
    nonempty_some (token_text text t) (omega (arith, n, k.some))

pub ruleset token_steps = (named_alone, nonempty_none)

-- the two names of a blank
pub blank_parts : (xs : List (List ℕ)) (w : List ℕ) (n m : ℕ) → n ≡ run in_name w → m ≡ run (λ c. c == 95) (drop n w) → (xs ++ nonempty (take n w)) ++ nonempty (drop m (drop n w)) ≡ xs ++ blank_names w
blank_parts xs w n m e g = append_assoc xs (nonempty (take n w)) (nonempty (drop m (drop n w))) ∙ ap (λ (ys : List (List ℕ)). xs ++ ys) (rw (g, e) refl)

pub ruleset blank_steps = (ascii_take, ascii_drop, blank_parts)
