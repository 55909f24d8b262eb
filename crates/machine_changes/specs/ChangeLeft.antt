-- The program that is left of a row, and the questions that are left.
use Rattle.std.specs.Prelude.{ℕ, Option, Some, None}
use Rattle.expr_tree.specs.Tree.{Tree}
use Rattle.semantics.specs.Names.{Names}
use Rattle.semantics.specs.Program.{Prog}
use Rattle.machine_changes.specs.declared.change.Change.{Change}
use Rattle.machine_changes.specs.declared.renewal.Renewal.{Renewal}
use Rattle.machine_changes.specs.Single.{done_to}
use Rattle.machine_changes.specs.Renewing.{left_renewal}
use Rattle.machine_changes.specs.Assigning.{asked_in, left_assignment}

abbrev pub left : Names → Change → Prog → Option Tree → Prog
left names (Change.Single f) stay answer = done_to names f.symbol f.deed
left names (Change.Renewal f) stay answer = left_renewal names f answer
left names (Change.Assignment f) stay answer = left_assignment names f answer

abbrev pub asked_once : Renewal → ℕ
asked_once f = elim f.before [ None ↦ 1 | Some old ↦ 0 ]

-- no fewer than the questions that are left
abbrev pub asked_by : Change → ℕ
asked_by (Change.Single f) = 0
asked_by (Change.Renewal f) = asked_once f
asked_by (Change.Assignment f) = asked_in f.phase

abbrev pub questions : Names → Change → Option Tree → ℕ
questions names f answer = asked_by f
