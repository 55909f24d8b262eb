use Rattle.std.proofs.Common.{◌≡◌, ◌++◌, drop}
use Rattle.journal.specs.Lines.{ids_text}
use Rattle.journal_form.proofs.parts.put_ids.Given as goal

-- the text so far, and what is left of the ids
abbrev pub invariant-loop-id : goal.invariant-loop-id
invariant-loop-id l = l.text ++ ids_text (drop l.id-index l.ids) ≡ l.fn.text ++ ids_text l.ids
