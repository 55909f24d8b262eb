use Rattle.std.proofs.Common.{◌≡◌, ◌+◌, ◌<◌, [], ◌∷◌, ◌++◌, sym, ap, ◌∙◌, subst, true≢false, take, drop, length, map, arith}
use Rattle.std.proofs.Math.ListN.{drop_of_length-le}
use Rattle.std.specs.Io.KnownBytes.{Appends}
use Rattle.script_text.specs.Cells.{cells}
use Rattle.lex_form.specs.Spans.{span_text}
use Rattle.port_io.specs.Counts.{Rose}
use Rattle.script_run.specs.Cells.{AreCellSpans}
use Rattle.semantics.specs.Definitions.{empty}
use Rattle.laws_bases.specs.Kept.{AreKeptIn}
use Rattle.script_run.proofs.EvalLemmas.{first_kept}
use Rattle.script_run.proofs.LexLemmas.{tokens_known}
use Rattle.script_run.proofs.NameLemmas.{AreKeptCells, script_kept}
use Rattle.script_run.proofs.TextLemmas.{first_span, span_whole}
use Rattle.script_run.proofs.TranscriptLemmas.{AreSoFar, none_so_far, next_cell, so_far_begins, so_far_all, joined_more}
use Rattle.script_run.proofs.WritingLemmas.{appends-nothing, appends-more, takes_first, takes_line, takes_more}
use Rattle.script_run.proofs.writing.write_cells.Goals as goal

pub loop-at-init : goal.loop-at-init
loop-at-init g c =
    let texts = c.args.names.now.texts in
    let script = c.args.script.now in
    let all = cells script in
    let steps = c.args.steps in
    let first : c.new-state.result.defs ≡ empty = ap (λ s. s.definitions) c.new-state.ensures ∙ c.in-Ok.ensures in
    let begun = subst (λ rest. AreSoFar texts all steps rest empty 1 []) (sym c.requires.cells) (none_so_far texts all steps) in
    record {
      lines = ([], subst (λ d. AreSoFar texts all steps (map (span_text script) c.args.spans.now) d 1 []) (sym first) begun, appends-nothing _, takes_first (g.K.Sink.takes c.args.sink.now));
      spans = c.requires.spans;
      kept = subst (λ cs. AreKeptCells texts cs) (sym c.requires.cells) (subst (λ ts. AreKeptCells ts all) (sym c.requires.texts) (script_kept all));
      defined = subst (AreKeptIn (length texts)) (sym first) (first_kept (length texts));
      counted = omega arith;
    }

pub cell_text-cell-requires-clause-whole : goal.cell_text-cell-requires-clause-whole
cell_text-cell-requires-clause-whole g c =
    let inside : c.loop-at.at < length c.args.spans.now = omega (arith, ap length c.as_slice-span-items.ensures, c.loop-at-test.true) in
    span_whole c.args.script.now c.args.spans.now c.as_slice-span-items.result.now c.loop-at.at (record { from = 0; to = 0 }) c.as_slice-span-items.ensures inside c.loop-at.invariant.spans

pub run_cell-requires-clause-lexed : goal.run_cell-requires-clause-lexed
run_cell-requires-clause-lexed g c =
    let inside : c.loop-at.at < length c.args.spans.now = omega (arith, ap length c.as_slice-span-items.ensures, c.loop-at-test.true) in
    tokens_known c.args.script.now c.args.spans.now c.as_slice-span-items.result.now c.args.lexed.now c.loop-at.at _ c.index-lexed-at.result c.cell_text-cell.result.now c.requires.lexed inside
    c.index-lexed-at.is c.as_slice-span-items.ensures c.cell_text-cell.ensures

pub returns-in_default-run_cell-clause-written : goal.returns-in_default-run_cell-clause-written
returns-in_default-run_cell-clause-written g c =
    let so = c.loop-at.invariant.lines in
    (so.0, so_far_begins c.args.names.now.texts c.args.steps c.args.script.now _ c.loop-at.state.defs (c.loop-at.at + 1) so.0 c.requires.texts so.1, so.2)

pub returns-clause-written : goal.returns-clause-written
returns-clause-written g c =
    let texts = c.args.names.now.texts in
    let script = c.args.script.now in
    let so = c.loop-at.invariant.lines in
    let ended : drop c.loop-at.at c.args.spans.now ≡ [] = drop_of_length-le c.args.spans.now (omega (arith, ap length c.as_slice-span-items.ensures, c.loop-at-test.false)) in
    let all = subst (λ ss. AreSoFar texts (cells script) c.args.steps (map (span_text script) ss) c.loop-at.state.defs (c.loop-at.at + 1) so.0) ended so.1 in
    (so.0, so_far_all texts c.args.steps script c.loop-at.state.defs (c.loop-at.at + 1) so.0 c.requires.texts all, so.2)

pub returns-in-Err-clause-written : goal.returns-in-Err-clause-written
returns-in-Err-clause-written g c =
    let script = c.args.script.now in
    let so = c.loop-at.invariant.lines in
    let line = c.in-Ok-run_cell.line in
    let inside : c.loop-at.at < length c.args.spans.now = omega (arith, ap length c.as_slice-span-items.ensures, c.loop-at-test.true) in
    let text : c.as_bytes.result.now ≡ line = c.as_bytes.ensures.value ∙ c.as_str.ensures in
    let part = subst (λ t. Appends (g.K.Sink.held c.loop-at.sink) (g.K.Sink.held c.write_all.new.self) (take c.in-Err.ensures.bytes.0 t)) text c.in-Err.ensures.bytes.1 in
    let more = next_cell c.args.names.now c.args.steps script c.args.spans.now c.as_slice-span-items.result.now c.loop-at.at (record { from = 0; to = 0 }) c.loop-at.state.defs c.run_cell.new.state.defs (c.loop-at.at + 1) so.0
    c.cell_text-cell.result.now line c.as_slice-span-items.ensures inside c.cell_text-cell.ensures so.1 c.in-Ok-run_cell.ensures.prints in
    let rose : Rose (g.K.Sink.faults c.args.sink.now) (g.K.Sink.faults c.write_all.new.self) = omega (arith, c.in-Err.ensures.failed, c.loop-at.invariant.counted) in
    (rose, so.0, line, c.in-Err.ensures.bytes.0, so_far_begins c.args.names.now.texts c.args.steps script _ c.run_cell.new.state.defs (c.loop-at.at + 1 + 1) (so.0 ++ line ∷ []) c.requires.texts more, appends-more _ _ _ _ _ so.2 part)

pub returns-in-Err-clause-sure : goal.returns-in-Err-clause-sure
returns-in-Err-clause-sure g c = λ room same.
    let script = c.args.script.now in
    let so = c.loop-at.invariant.lines in
    let line = c.in-Ok-run_cell.line in
    let inside : c.loop-at.at < length c.args.spans.now = omega (arith, ap length c.as_slice-span-items.ensures, c.loop-at-test.true) in
    let text : c.as_bytes.result.now ≡ line = c.as_bytes.ensures.value ∙ c.as_str.ensures in
    let more = next_cell c.args.names.now c.args.steps script c.args.spans.now c.as_slice-span-items.result.now c.loop-at.at (record { from = 0; to = 0 }) c.loop-at.state.defs c.run_cell.new.state.defs (c.loop-at.at + 1) so.0
    c.cell_text-cell.result.now line c.as_slice-span-items.ensures inside c.cell_text-cell.ensures so.1 c.in-Ok-run_cell.ensures.prints in
    let begins = so_far_begins c.args.names.now.texts c.args.steps script _ c.run_cell.new.state.defs (c.loop-at.at + 1 + 1) (so.0 ++ line ∷ []) c.requires.texts more in
    let enough = takes_line (g.K.Sink.takes c.args.sink.now) so.0 line (room (so.0 ++ line ∷ []) begins) in
    absurd (true≢false (sym (c.in-Err.ensures.sure (subst (λ t. g.K.Sink.takes c.loop-at.sink (length t)) (sym text) (so.3 (length line) enough)))))

pub loop-at-preserved : goal.loop-at-preserved
loop-at-preserved g c =
    let script = c.args.script.now in
    let so = c.loop-at.invariant.lines in
    let line = c.in-Ok-run_cell.line in
    let inside : c.loop-at.at < length c.args.spans.now = omega (arith, ap length c.as_slice-span-items.ensures, c.loop-at-test.true) in
    let first = first_span c.args.spans.now c.as_slice-span-items.result.now c.loop-at.at (record { from = 0; to = 0 }) c.as_slice-span-items.ensures inside in
    let text : c.as_bytes.result.now ≡ line = c.as_bytes.ensures.value ∙ c.as_str.ensures in
    let part = subst (λ t. Appends (g.K.Sink.held c.loop-at.sink) (g.K.Sink.held c.write_all.new.self) t) text c.in-Ok-write_all.ensures.bytes in
    let more = next_cell c.args.names.now c.args.steps script c.args.spans.now c.as_slice-span-items.result.now c.loop-at.at (record { from = 0; to = 0 }) c.loop-at.state.defs c.run_cell.new.state.defs (c.loop-at.at + 1) so.0
    c.cell_text-cell.result.now line c.as_slice-span-items.ensures inside c.cell_text-cell.ensures so.1 c.in-Ok-run_cell.ensures.prints in
    let takes = g.K.Sink.takes in
    record {
      lines = (
        so.0 ++ line ∷ [],
        more,
        subst (λ xs. Appends (g.K.Sink.held c.args.sink.now) (g.K.Sink.held c.write_all.new.self) xs) (sym (joined_more so.0 line)) (appends-more _ _ _ _ _ so.2 part),
        λ m t. c.in-Ok-write_all.ensures.lasting m (subst (λ x. takes c.loop-at.sink (length x + m)) (sym text) (so.3 (length line + m) (takes_more (takes c.args.sink.now) so.0 line m t))),
      );
      spans = (subst (AreCellSpans script) first c.loop-at.invariant.spans).2;
      kept = (subst (λ ss. AreKeptCells c.args.names.now.texts (map (span_text script) ss)) first c.loop-at.invariant.kept).1;
      defined = c.in-Ok-run_cell.ensures.kept_after;
      counted = omega (arith, c.loop-at.invariant.counted, c.in-Ok-write_all.ensures.counted);
    }
