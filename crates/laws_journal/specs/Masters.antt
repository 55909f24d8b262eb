-- The master between its calls.
--     AtRest                no wait stands, the stand-in has no attempt, and kernel 0 holds locks exactly where the master's section is open
--     CallsKeepSections     so it is after each call
--     CellsKeepSections     so it is at the end of an evaluation in a cell that began outside a section
use Rattle.std.specs.Prelude.{◌≡◌, Bool, true, false, not, T, is_some, Some}
use Rattle.expr_tree.specs.Tree.{Tree}
use Rattle.semantics.specs.Definitions.{Definitions}
use Rattle.semantics.specs.Program.{Call, Mode}
use Rattle.semantics.specs.Play.{whole}
use Rattle.semantics.specs.Opened.{opens, may_call}
use Rattle.journal.specs.Core.{Setup, replay, no_wait, holds_nothing, in_mode}
use Rattle.journal.specs.Follow.{Plan, View, Free, kernel_run, KernelRun}
use Rattle.journal.specs.Run.{Walk, Goes, Answered, answer, Finish, play_along}

pub record AtRest (set : Setup) (plan : Plan) (inside : Bool) (w : Walk) : Type 0 where
  pub folds : replay set w.posted ≡ Some w.core
  pub free : no_wait w.core ≡ true
  pub holds : not (holds_nothing w.core 0) ≡ inside
  pub view : View
  pub seen : kernel_run set plan 0 w.posted ≡ Some view
  pub known : Definitions
  pub phase : view.phase ≡ Free known

-- where the stand-in's run holds of what was posted
abbrev pub CallsKeepSections : Type 0
CallsKeepSections =
    (set : Setup) (plan : Plan) (inside : Bool) (c : Call) (d : Definitions) (w : Walk) (a : Answered) → AtRest set plan inside w → T (may_call c inside) → answer set c d w ≡ Goes a
    → KernelRun set plan 0 a.walk.posted → AtRest set plan (opens c a.reply inside) a.walk

abbrev pub CellsKeepSections : Type 0
CellsKeepSections =
    (set : Setup) (plan : Plan) (d : Definitions) (e : Tree) (w : Walk) (r : Finish × Walk) → AtRest set plan false w → play_along set (whole (in_mode set Mode.Cell 0) d e) w ≡ Goes r
    → KernelRun set plan 0 (r.1).posted → AtRest set plan (is_some (r.0).state.open_section) r.1
