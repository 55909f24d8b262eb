use Rattle.std.proofs.Common.{◌≡◌, ◌++◌, ◌+◌, drop}
use Rattle.script_text.specs.Spelling.{by_texts}
use Rattle.journal.specs.Lines.{lines_from, journal_text}
use Rattle.journal_form.proofs.line.entries_text.Given as goal

-- the text so far, and the lines of the entries that are left
abbrev pub invariant-loop-i : goal.invariant-loop-i
invariant-loop-i l =
    l.text ++ lines_from (by_texts l.names.texts) (l.i + 1) (drop l.i l.entries) ≡ journal_text (by_texts l.names.texts) l.entries
