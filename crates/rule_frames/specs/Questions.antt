-- How much a trial of rules may still ask.
--     questions             the most guards that are left, whatever the answers are
use Rattle.std.specs.Prelude.{ℕ, pos, Option}
use Rattle.expr_tree.specs.Tree.{Tree, integer}
use Rattle.semantics.specs.Names.{Names}
use Rattle.semantics.specs.Program.{Prog, Done}
use Rattle.rule_frames.specs.declared.attempt.Attempt.{Attempt}
use Rattle.rule_frames.specs.Trials.{left}
use Rattle.rule_frames.specs.Worst.{worst}

-- nothing is asked after the trial
abbrev pub ended : Option Tree → Prog
ended v = Done (integer (pos 0))

abbrev pub questions : Names → Attempt → Option Tree → ℕ
questions names a answer = worst names (left names a answer ended)
