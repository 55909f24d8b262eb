use Rattle.std.proofs.Common.{◌≡◌, ◌++◌, drop}
use Rattle.script_text.specs.Spelling.{by_texts}
use Rattle.journal.specs.Lines.{locks_text}
use Rattle.journal_form.proofs.parts.put_locks.Given as goal

-- the text so far, and what is left of the locks
abbrev pub invariant-loop-lock : goal.invariant-loop-lock
invariant-loop-lock l =
    l.text ++ locks_text (by_texts l.names.texts) (drop l.lock-index l.locks) ≡ l.fn.text ++ locks_text (by_texts l.names.texts) l.locks
