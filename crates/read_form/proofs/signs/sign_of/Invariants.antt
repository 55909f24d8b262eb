use Rattle.std.proofs.Common.{◌≡◌, drop}
use Rattle.syntax.specs.Signs as syn
use Rattle.case_table.specs.Entries.{OperatorSign, entries}
use Rattle.read_form.proofs.SignSteps.{named_by}
use Rattle.read_form.proofs.signs.sign_of.Given as goal

abbrev pub invariant-loop-row : goal.invariant-loop-row
invariant-loop-row l = named_by (entries (drop l.row-index l.row-items)) l.word ≡ OperatorSign (syn.sign_of l.word)
