-- The master from cell to cell, and in its waits.
--     CellsKeepRest         a cell that began at rest outside a section ends so
--     RunsRest              so does a run over the first cells of a script
--     WaitsAgree            at each point of a wait kernel 0 holds locks where the stand-in's attempt is inside a section
use Rattle.std.specs.Prelude.{◌≡◌, ℕ, List, true, false, not, Some}
use Rattle.expr_tree.specs.Tree.{Tree}
use Rattle.semantics.specs.Names.{IsNames}
use Rattle.semantics.specs.Definitions.{Definitions}
use Rattle.semantics.specs.Program.{Mode}
use Rattle.semantics.specs.Play.{whole}
use Rattle.journal.specs.Places.{is_some}
use Rattle.journal.specs.declared.event.Entry.{Entry}
use Rattle.journal.specs.Entry.{Posted}
use Rattle.journal.specs.Core.{Setup, Core, replay, holds_nothing, in_mode}
use Rattle.journal.specs.Follow.{Plan, View, kernel_run, KernelRun}
use Rattle.journal.specs.Run.{Walk, Goes, Finish, play_along, Reading, Ran, run_along, begun_by}
use Rattle.laws_journal.specs.Laws.{StandsIn}
use Rattle.laws_journal.specs.Masters.{AtRest}

-- where the stand-in's run holds of what was posted
abbrev pub CellsKeepRest : Type 0
CellsKeepRest =
    (set : Setup) (plan : Plan) (d : Definitions) (e : Tree) (w : Walk) (r : Finish × Walk) → AtRest set plan false w → play_along set (whole (in_mode set Mode.Cell 0) d e) w ≡ Goes r
    → KernelRun set plan 0 (r.1).posted → AtRest set plan false r.1

abbrev pub RunsRest : Type 0
RunsRest =
    (set : Setup) (plan : Plan) (cells : List Reading) (journal : List Entry) (m : ℕ) (ran : Ran) → IsNames set.names → run_along set cells journal m ≡ Goes ran
    → KernelRun set plan 0 ran.walk.posted → AtRest set plan false ran.walk

-- of whatever may begin a legal journal
abbrev pub WaitsAgree : Type 0
WaitsAgree =
    (set : Setup) (plan : Plan) (cells : List Reading) (journal : List Entry) (ps : List Posted) (c : Core) (v : View) → IsNames set.names → begun_by set cells journal ≡ Some ps
    → replay set ps ≡ Some c → kernel_run set plan 0 ps ≡ Some v → is_some c.wait ≡ true → StandsIn v.phase (not (holds_nothing c 0))
