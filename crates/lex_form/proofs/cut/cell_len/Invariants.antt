use Rattle.std.proofs.Common.{◌≡◌, ◌≤◌, ◌<◌, ◌+◌, ◌-◌, ◌∷◌, drop, take, length}
use Rattle.script_text.specs.Cells.{cells, runs, lines}
use Rattle.lex_form.proofs.CellLemmas.{cell_from}
use Rattle.lex_form.proofs.cut.cell_len.Given as goal

-- the lines so far are those of the first cell, and a line feed ends them
abbrev pub invariant-loop-end : goal.invariant-loop-end
invariant-loop-end l =
    (l.end ≤ length l.text)
    × (cells l.text ≡ cell_from (take l.end l.text) (runs (lines (drop (l.end + 1) l.text))))
    × (l.end < length l.text → drop l.end l.text ≡ 10 ∷ drop (l.end + 1) l.text)

abbrev pub decreases-loop-end : goal.decreases-loop-end
decreases-loop-end l = length l.text - l.end
