use Rattle.std.proofs.Common.{◌≡◌, drop}
use Rattle.semantics.specs.Program.{Prog}
use Rattle.semantics.specs.Play.{Evaluator, State, run}
use Rattle.semantics.specs.Assemble.{check_all}
use Rattle.machine_steps.specs.Setup.{setting_of}
use Rattle.machine_changes.proofs.left_call.first_stop.Given as goal

abbrev pub invariant-loop-e : goal.invariant-loop-e
invariant-loop-e l =
    (p : Prog) (ev : Evaluator) (st : State) → run (setting_of l.scene) ev (check_all l.each p) st ≡ run (setting_of l.scene) ev (check_all (drop l.e-index l.each) p) st
