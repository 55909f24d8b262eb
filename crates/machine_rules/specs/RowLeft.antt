-- The program that is left of a row, and the questions that are left.
--     scanning              a row before the first expression on which it tries rules
--     left, left_machine, left_all      the program that is left; what stays does not matter once a machine has started
--     questions             no fewer than the questions and turns that are left, whatever the answers are
--     asked_scan, asked_all             the same of a scan, and of ReplaceAll
use Rattle.std.specs.Prelude.{ℕ, List, Option, None}
use Rattle.expr_tree.specs.Tree.{Tree}
use Rattle.semantics.specs.Names.{Names}
use Rattle.semantics.specs.Rule.{Rule}
use Rattle.semantics.specs.Program.{Prog, Done}
use Rattle.rule_frames.specs.Worst.{worst}
use Rattle.machine_rules.specs.declared.rule_row.RuleRow.{RuleRow}
use Rattle.machine_rules.specs.declared.scan.Scan.{Scan}
use Rattle.machine_rules.specs.declared.tally.Tally.{Tally}
use Rattle.machine_rules.specs.declared.walk.Walk.{Walk}
use Rattle.machine_rules.specs.Rounds.{left_rounds}
use Rattle.machine_rules.specs.Scans.{left_scan}
use Rattle.machine_rules.specs.Walks.{left_walk}

abbrev pub scanning : List Rule → Tally → List Tree → RuleRow
scanning rs t es = RuleRow.Scan (record { rules = rs; tally = t; rest = es; present = None })

-- of ReplaceAll
abbrev pub left_all : Names → Walk → Option Tree → Prog
left_all names w answer = left_walk names w answer Done

abbrev pub left_machine : Names → RuleRow → Option Tree → Prog
left_machine names (RuleRow.Scan s) answer = left_scan names s answer
left_machine names (RuleRow.All w) answer = left_all names w answer
left_machine names (RuleRow.Repeated r) answer = left_rounds names r.rounds answer

abbrev pub left : Names → RuleRow → Prog → Option Tree → Prog
left names m stay answer = left_machine names m answer

abbrev pub asked_scan : Names → Scan → Option Tree → ℕ
asked_scan names s answer = worst names (left_scan names s answer)

abbrev pub asked_all : Names → Walk → Option Tree → ℕ
asked_all names w answer = worst names (left_all names w answer)

abbrev pub questions : Names → RuleRow → Option Tree → ℕ
questions names (RuleRow.Scan s) answer = asked_scan names s answer
questions names (RuleRow.All w) answer = asked_all names w answer
questions names (RuleRow.Repeated r) answer = r.moves
