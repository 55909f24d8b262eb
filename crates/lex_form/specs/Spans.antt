-- Parts of a text.
--     span_text            the bytes of a span
--     IsSpan, AreSpans     the span lies in the text
--     texts_of             the texts of the program's spans
use Rattle.std.specs.Prelude.{◌≡◌, ℕ, ◌≤◌, ◌-◌, List, [], ◌∷◌, take, drop, length, map}
use Rattle.lex_form.specs.declared.cut.Span.{Span}

abbrev pub span_text : List ℕ → Span → List ℕ
span_text text s = take (s.to - s.from) (drop s.from text)

abbrev pub texts_of : List ℕ → List Span → List (List ℕ)
texts_of text spans = map (span_text text) spans

pub record IsSpan (text : List ℕ) (s : Span) : Type 0 where
  pub order : s.from ≤ s.to
  pub within : s.to ≤ length text

abbrev pub AreSpans : List ℕ → List Span → Type 0
AreSpans text [] = Unit {0}
AreSpans text (s ∷ ss) = IsSpan text s × AreSpans text ss
