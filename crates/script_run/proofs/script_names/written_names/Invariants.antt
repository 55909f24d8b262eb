use Rattle.std.proofs.Common.{◌≡◌, ◌++◌, map, drop}
use Rattle.lex_form.specs.Spans.{span_text}
use Rattle.sequential_transcript.specs.Transcript.{written_names}
use Rattle.script_run.specs.Cells.{AreCellSpans}
use Rattle.script_run.proofs.script_names.written_names.Given as goal

-- the names of the cells so far, and of those that are left
abbrev pub invariant-loop-at : goal.invariant-loop-at
invariant-loop-at l = record {
  names : l.names ++ written_names (map (span_text l.script) (drop l.at l.spans)) ≡ written_names (map (span_text l.script) l.spans);
  spans : AreCellSpans l.script (drop l.at l.spans);
}
