-- The tokens of a cell among those of all cells.
use Rattle.std.proofs.Common.{◌≡◌, sym, ap, ◌∙◌, ℕ, zero, suc, ◌<◌, List, [], ◌∷◌, length, map, drop, get_or, arith}
use Rattle.std.proofs.lemmas.List.{length-map}
use Rattle.syntax.specs.Tokens.{lex}
use Rattle.lex_form.specs.declared.cut.Span.{Span}
use Rattle.lex_form.specs.declared.token.Lexed.{Lexed}
use Rattle.lex_form.specs.Lexes.{lexed}
use Rattle.lex_form.specs.Spans.{span_text}
use Rattle.script_run.specs.Cells.{AreLexed}

pub lexed_count : (script : List ℕ) (spans : List Span) (ls : List Lexed) → AreLexed (map (span_text script) spans) ls → length ls ≡ length spans
lexed_count script spans ls same = omega (arith, ap length same, length-map ls lexed, length-map (map (span_text script) spans) lex, length-map spans (span_text script))

pub cell_lexed : (script : List ℕ) (spans : List Span) (ls : List Lexed) (at : ℕ) (s : Span) (l : Lexed) → AreLexed (map (span_text script) spans) ls → at < length spans
    → lexed (get_or ls at l) ≡ lex (span_text script (get_or spans at s))
cell_lexed script [] ls at s l same inside = absurd (omega (arith, inside))
cell_lexed script (x ∷ spans) [] at s l same inside = absurd (omega (arith, ap length same))
cell_lexed script (x ∷ spans) (y ∷ ls) zero s l same inside = ap (λ xs. get_or xs 0 (lexed y)) same
cell_lexed script (x ∷ spans) (y ∷ ls) (suc at) s l same inside = cell_lexed script spans ls at s l (ap (drop 1) same) (omega (arith, inside))

-- the tokens at a place are those of the cell there
pub tokens_known : (script : List ℕ) (spans items : List Span) (ls : List Lexed) (at : ℕ) (s : Span) (l : Lexed) (cell : List ℕ) → AreLexed (map (span_text script) spans) ls → at < length spans
    → l ≡ get_or ls at l → items ≡ spans → cell ≡ span_text script (get_or items at s) → lexed l ≡ lex cell
tokens_known script spans items ls at s l cell same inside here are is =
    ap lexed here ∙ (cell_lexed script spans ls at s l same inside ∙ ap lex (sym (is ∙ ap (λ xs. span_text script (get_or xs at s)) are)))
