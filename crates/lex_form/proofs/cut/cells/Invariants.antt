use Rattle.std.proofs.Common.{◌≡◌, ◌≤◌, ◌<◌, ◌-◌, ◌++◌, length, drop, take, false}
use Rattle.script_text.specs.Cells.{is_blank, cells}
use Rattle.lex_form.specs.Spans.{texts_of, AreSpans}
use Rattle.lex_form.proofs.CellLemmas.{first_len}
use Rattle.lex_form.proofs.cut.cells.Given as goal

abbrev pub invariant-loop-from : goal.invariant-loop-from
invariant-loop-from l = record {
  same : l.bytes ≡ l.text;
  cells : texts_of l.text l.spans ++ cells (drop l.from l.text) ≡ cells l.text;
  spans : AreSpans l.text l.spans;
  within : l.from ≤ length l.text;
  begins : l.from < length l.text → is_blank (take (first_len (drop l.from l.text)) (drop l.from l.text)) ≡ false;
}

abbrev pub decreases-loop-from : goal.decreases-loop-from
decreases-loop-from l = length l.bytes - l.from
