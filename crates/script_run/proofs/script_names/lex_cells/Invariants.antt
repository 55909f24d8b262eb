use Rattle.std.proofs.Common.{◌≡◌, ◌++◌, map, drop}
use Rattle.syntax.specs.Tokens.{lex}
use Rattle.lex_form.specs.Lexes.{lexed}
use Rattle.lex_form.specs.Spans.{span_text}
use Rattle.script_run.specs.Cells.{AreCellSpans}
use Rattle.script_run.proofs.script_names.lex_cells.Given as goal

-- the tokens of the cells so far, and of those that are left
abbrev pub invariant-loop-span : goal.invariant-loop-span
invariant-loop-span l = record {
  lexed : map lexed l.cells.items ++ map lex (map (span_text l.script) (drop l.span-index l.spans)) ≡ map lex (map (span_text l.script) l.spans);
  spans : AreCellSpans l.script (drop l.span-index l.spans);
}
