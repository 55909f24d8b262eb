use Rattle.std.proofs.Common.{◌≡◌, ◌≤◌, ◌+◌, arith, sym, ◌∙◌, length, length-drop, drop, take, true, ℕ, ap}
use Rattle.std.proofs.lemmas.List.{drop-drop}
use Rattle.script_text.specs.Cells.{is_blank, cells}
use Rattle.lex_form.proofs.CellLemmas.{blank_skipped_at}
use Rattle.lex_form.proofs.cut.skip_blank.Goals as goal

pub loop-at-preserved : goal.loop-at-preserved
loop-at-preserved c =
    let text = c.args.text.now in
    let at = c.loop-at.at in
    let len = c.line_len-len.result in
    let behind = c.behind-rest.ensures in
    let line = rw behind at c.line_len-len.ensures.line in
    let inside : len ≤ length (drop at text) = rw behind at c.line_len-len.ensures.within in
    let blank : is_blank (take len (drop at text)) ≡ true = rw behind at (sym c.is_blank.ensures ∙ c.if-not-is_blank.false) in
    let skipped = blank_skipped_at (drop at text) len line blank in
    let next = c.next_line-at.ensures in
    record {
      cells = ap cells next.rest ∙ ap (λ m. cells (drop m text)) (omega arith) ∙ ap cells (sym (drop-drop (len + 1) at text)) ∙ sym skipped ∙ c.loop-at.invariant.cells;
      after = omega (arith, next.within, c.loop-at.invariant.after);
      within = next.within.1;
    }
