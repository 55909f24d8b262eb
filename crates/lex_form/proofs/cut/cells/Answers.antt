use Rattle.std.proofs.Common.{◌≡◌, ◌≤◌, ◌<◌, ◌+◌, ◌∷◌, arith, sym, ◌∙◌, length, length-drop, drop, take, ℕ, ap}
use Rattle.script_text.specs.Cells.{cells}
use Rattle.lex_form.proofs.CellSteps.{cell_more, spans_more}
use Rattle.lex_form.proofs.cut.cells.Goals as goal

pub loop-from-preserved : goal.loop-from-preserved
loop-from-preserved c =
    let text = c.args.text.now in
    let from = c.loop-from.from in
    let len = c.cell_len.result in
    let next = c.skip_blank-from-in-loop-from.result in
    let same = c.loop-from.invariant.same in
    let before : from < length text = rw same at c.loop-from-test.true in
    let rest = rw same at c.behind.ensures in
    let cell = rw rest at c.cell_len.ensures.cell in
    let inside : len ≤ length (drop from text) = rw rest at c.cell_len.ensures.within in
    let skipped : cells (drop next text) ≡ cells (drop (from + len + 1) text) = rw same at (c.skip_blank-from-in-loop-from.ensures.cells ∙ ap cells c.next_line.ensures.rest) in
    let to : from + len ≤ length text = omega (arith, inside, before, length-drop {A = ℕ}) in
    let ok = c.in_ok-push.ensures.ok in
    record {
      same = same;
      cells = rw ok (cell_more text c.loop-from.spans from len next (omega (arith, before)) inside cell skipped c.loop-from.invariant.cells);
      spans = rw ok (spans_more text c.loop-from.spans (record { from = from; to = from + len }) c.loop-from.invariant.spans (record { order = omega arith; within = to }));
      within = rw same at c.skip_blank-from-in-loop-from.ensures.within.1;
      begins = rw same at c.skip_blank-from-in-loop-from.ensures.begins;
    }
