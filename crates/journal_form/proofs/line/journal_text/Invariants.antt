use Rattle.std.proofs.Common.{◌≡◌, ◌++◌}
use Rattle.script_text.specs.Spelling.{by_texts}
use Rattle.journal.specs.Lines.{journal_text}
use Rattle.journal_form.proofs.Lines.{entries, lines_behind}
use Rattle.journal_form.proofs.line.journal_text.Given as goal

-- the text so far, and the lines of the entries that are left
abbrev pub invariant-loop-at : goal.invariant-loop-at
invariant-loop-at l =
    l.text ++ lines_behind (by_texts l.names.texts) l.at l.journal.posted ≡ journal_text (by_texts l.names.texts) (entries l.journal.posted)
