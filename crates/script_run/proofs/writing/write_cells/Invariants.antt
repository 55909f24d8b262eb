use Rattle.std.proofs.Common.{◌≤◌, ◌+◌, List, ℕ, length, map, drop}
use Rattle.std.specs.Io.KnownBytes.{Appends}
use Rattle.script_text.specs.Bytes.{all_joined}
use Rattle.script_text.specs.Cells.{cells}
use Rattle.lex_form.specs.Spans.{span_text}
use Rattle.laws_bases.specs.Kept.{AreKeptIn}
use Rattle.script_run.specs.Cells.{AreCellSpans}
use Rattle.script_run.proofs.NameLemmas.{AreKeptCells}
use Rattle.script_run.proofs.TranscriptLemmas.{AreSoFar}
use Rattle.script_run.proofs.writing.write_cells.Given as goal

-- lines were written, and the cells from here on are left
abbrev pub invariant-loop-at : goal.invariant-loop-at
invariant-loop-at g l =
    let K = g.K.Sink in
    let rest = map (span_text l.script) (drop l.at l.spans) in
    record {
      lines : (lines : List (List ℕ)) × AreSoFar l.names.texts (cells l.script) l.steps rest l.state.defs (l.at + 1) lines × Appends (K.held l.fn.sink) (K.held l.sink) (all_joined lines)
          × ((more : ℕ) → K.takes l.fn.sink (length (all_joined lines) + more) → K.takes l.sink more);
      spans : AreCellSpans l.script (drop l.at l.spans);
      kept : AreKeptCells l.names.texts rest;
      defined : AreKeptIn (length l.names.texts) l.state.defs;
      counted : K.faults l.fn.sink ≤ K.faults l.sink;
    }
