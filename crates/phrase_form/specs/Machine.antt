-- The machine over what is kept, with the names of a script.
--     start_at, step_at, finished_at, run_at    its first state, a step, the phrase at the end, and steps in turn
--     state_in, steps_to                        the state of the program's machine; that to which a step leads
use Rattle.std.specs.Prelude.{List, Option, Some, None}
use Rattle.expr_tree.specs.Tree.{Tree}
use Rattle.semantics.specs.Names.{Names}
use Rattle.syntax.specs.Terminals.{Terminal}
use Rattle.syntax.proofs.Reader as r
use Rattle.laws_reading.specs.Kept as low
use Rattle.phrase_form.specs.States.{State, frames_in, mode_in}
use Rattle.phrase_form.specs.declared.machine.Machine.{Machine}
use Rattle.phrase_form.specs.declared.machine.Step.{Step}
use Rattle.phrase_form.specs.declared.machine.Step.TheVariants.{Goes, Stops}

module _ (names : Names) where
  abbrev pub start_at : State names
  start_at = r.start_state low.Kept (Option Tree) low.KeptList (low.kept names)

  abbrev pub step_at : Terminal → State names → Option (State names)
  step_at t s = r.step low.Kept (Option Tree) low.KeptList (low.kept names) t s

  abbrev pub run_at : List Terminal → State names → Option (State names)
  run_at ts s = r.run low.Kept (Option Tree) low.KeptList (low.kept names) ts s

  abbrev pub finished_at : State names → Option low.Kept
  finished_at s = r.finished low.Kept (Option Tree) low.KeptList (low.kept names) s.1 s.0

  abbrev pub state_in : Machine → State names
  state_in m = (frames_in names m.stack, mode_in names m.mode)

  abbrev pub steps_to : Step → Machine → Option (State names)
  steps_to Goes m = Some (state_in m)
  steps_to Stops m = None
