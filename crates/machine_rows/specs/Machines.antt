-- The machines as one.
--     left                  the program that is left, before an answer and after
--     questions             no fewer than the questions that are left
use Rattle.std.specs.Prelude.{ℕ, Option}
use Rattle.expr_tree.specs.Tree.{Tree}
use Rattle.semantics.specs.Names.{Names}
use Rattle.semantics.specs.Program.{Prog}
use Rattle.frames_control.specs.ControlLeft as control
use Rattle.frames_scope.specs.ScopingLeft.{left_with}
use Rattle.rule_frames.specs.Questions as trial
use Rattle.machine_changes.specs.ChangeLeft as change
use Rattle.machine_rules.specs.RowLeft as rule_row
use Rattle.machine_iterators.specs.IterationLeft as iteration
use Rattle.machine_outward.specs.OutwardLeft as outward
use Rattle.machine_rows.specs.Asking.{asks}
use Rattle.machine_rows.specs.RowsLeft.{left_module, left_block, left_rules}
use Rattle.machine_rows.specs.declared.machine.Machine.{Machine}

abbrev pub left : Names → Machine → Prog → Option Tree → Prog
left names (Machine.Control f) stay answer = control.left names f answer
left names (Machine.Module f) stay answer = left_module names f answer
left names (Machine.Block f) stay answer = left_block names f answer
left names (Machine.With f) stay answer = left_with names f answer
left names (Machine.Rules a) stay answer = left_rules names a stay answer
left names (Machine.Iteration f) stay answer = iteration.left names f stay answer
left names (Machine.Change f) stay answer = change.left names f stay answer
left names (Machine.RuleRow r) stay answer = rule_row.left names r stay answer
left names (Machine.Outward r) stay answer = outward.left names r stay answer

abbrev pub questions : Names → Machine → Option Tree → ℕ
questions names (Machine.Control f) answer = control.questions f
questions names (Machine.Module f) answer = asks (left_module names f answer)
questions names (Machine.Block f) answer = asks (left_block names f answer)
questions names (Machine.With f) answer = asks (left_with names f answer)
questions names (Machine.Rules a) answer = trial.questions names a answer
questions names (Machine.Iteration f) answer = iteration.questions f
questions names (Machine.Change f) answer = change.questions names f answer
questions names (Machine.RuleRow r) answer = rule_row.questions names r answer
questions names (Machine.Outward r) answer = outward.questions r
