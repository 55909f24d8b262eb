-- What the program knows of cells.
--     AreCellSpans         each span lies in the script, and its text is UTF-8
--     AreLexed             the tokens of each text
use Rattle.std.specs.Prelude.{◌≡◌, ℕ, List, [], ◌∷◌, map}
use Rattle.std.specs.Str.{IsUtf8}
use Rattle.lex_form.specs.declared.cut.Span.{Span}
use Rattle.lex_form.specs.declared.token.Lexed.{Lexed}
use Rattle.lex_form.specs.Lexes.{lexed}
use Rattle.lex_form.specs.Spans.{IsSpan, span_text}
use Rattle.syntax.specs.Tokens.{lex}

abbrev pub AreCellSpans : List ℕ → List Span → Type 0
AreCellSpans script [] = Unit {0}
AreCellSpans script (s ∷ ss) = IsSpan script s × IsUtf8 (span_text script s) × AreCellSpans script ss

abbrev pub AreLexed : List (List ℕ) → List Lexed → Type 0
AreLexed texts ls = map lexed ls ≡ map lex texts
