use Rattle.std.proofs.Common.{◌+◌, ◌≤◌, drop, take, length, arith, sym, ◌∙◌, length-drop, ℕ, false, ◌≡◌}
use Rattle.script_text.specs.Cells.{is_blank}
use Rattle.lex_form.proofs.CellLemmas.{cell_begins_at, cell_grows_at, cell_ends_at, feed_first_at, filled_line, first_len, feed_later}
use Rattle.lex_form.proofs.cut.cell_len.Goals as goal

pub loop-end-init : goal.loop-end-init
loop-end-init c =
    let line = c.line_len-end.ensures.line in
    (c.line_len-end.ensures.within, cell_begins_at c.args.text.now _ line c.requires, feed_first_at c.args.text.now _ line)

pub returns-then-is_blank-clause-cell : goal.returns-then-is_blank-clause-cell
returns-then-is_blank-clause-cell c =
    let behind = c.behind_line-rest.ensures in
    let line = rw behind at c.line_len-len.ensures.line in
    let blank = rw behind at (sym c.is_blank.ensures ∙ c.if-is_blank.true) in
    c.loop-end.invariant.1 ∙ cell_ends_at _ _ _ line blank

pub loop-end-preserved : goal.loop-end-preserved
loop-end-preserved c =
    let text = c.args.text.now in
    let end = c.loop-end.end in
    let m = c.line_len-len.result in
    let behind = c.behind_line-rest.ensures in
    let line : m ≡ first_len (drop (end + 1) text) = rw behind at c.line_len-len.ensures.line in
    let within : m ≤ length (drop (end + 1) text) = rw behind at c.line_len-len.ensures.within in
    let filled : is_blank (take m (drop (end + 1) text)) ≡ false = rw behind at (sym c.is_blank.ensures ∙ c.if-is_blank.false) in
    let some = filled_line _ m filled within in
    let room : end + (1 + m) ≤ length text = omega (arith, length-drop {A = ℕ}) in
    (room, c.loop-end.invariant.1 ∙ cell_grows_at text end m line filled (c.loop-end.invariant.2 (omega arith)), feed_later text end m line)
