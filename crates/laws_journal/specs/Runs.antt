-- What a run along a journal is made of.
--     Along, RunPosts               what a run posted, and what it left, are the journal
--     BegunReplays                  so it is where the journal is used up before the end
--     Composed, LegalComposed       a legal journal: the losses in front, the cells, Close, and each kernel's run
--     LegalStarted                  a legal journal is one that may be begun so
--     CellsJoin                     the run over some cells, and then over the others
--     AtEnd, UsedUpStays            with no entry left, a run meets none that is another
use Rattle.std.specs.Prelude.{◌≡◌, ℕ, ◌+◌, ◌≤◌, List, [], ◌++◌, length, Some}
use Rattle.semantics.specs.Definitions.{Definitions, empty}
use Rattle.semantics.specs.Program.{Call}
use Rattle.semantics.specs.Play.{Play}
use Rattle.journal.specs.declared.event.Event.{Event}
use Rattle.journal.specs.declared.event.Entry.{Entry}
use Rattle.journal.specs.Entry.{Handed, Posted}
use Rattle.journal.specs.Core.{Setup, Core, replay}
use Rattle.journal.specs.Follow.{Plan, KernelRun}
use Rattle.journal.specs.Run.{Walk, Course, Goes, UsedUp, Differs, going, master_posts, answer, play_along, Reading, Ran, run_cells, first_losses, first_walk, run_along, begun_by, Legal, Started}
use Rattle.laws_journal.specs.Laws.{entries_of}

-- what was posted and what is left are the journal, and the core is the fold of what was posted
pub record Along (set : Setup) (journal : List Entry) (w : Walk) (rest : List Entry) : Type 0 where
  pub all : entries_of w.posted ++ rest ≡ journal
  pub folds : replay set w.posted ≡ Some w.core

abbrev pub RunPosts : Type 0
RunPosts =
    (set : Setup) (cells : List Reading) (journal : List Entry) (m : ℕ) (ran : Ran) → run_along set cells journal m ≡ Goes ran → Along set journal ran.walk ran.walk.rest

abbrev pub BegunReplays : Type 0
BegunReplays =
    (set : Setup) (cells : List Reading) (journal : List Entry) (ps : List Posted) → begun_by set cells journal ≡ Some ps
    → (entries_of ps ≡ journal) × ((c : Core) × (replay set ps ≡ Some c))

-- ---- legal journals

pub record Composed (set : Setup) (plan : Plan) (cells : List Reading) (journal : List Entry) : Type 0 where
  pub begun : Walk
  pub losses : first_losses set (first_walk set journal) journal ≡ Goes begun
  pub ran : Ran
  pub runs : run_cells set 1 cells (record { walk = begun; definitions = empty; lines = [] }) ≡ Goes ran
  pub ended : Walk
  pub close : master_posts set Event.Close Handed.Nothing ran.walk ≡ Goes ended
  pub over : ended.rest ≡ []
  pub kernels : (k : ℕ) → k ≤ set.kernels → KernelRun set plan k ended.posted

abbrev pub LegalComposed : Type 0
LegalComposed =
    (set : Setup) (plan : Plan) (cells : List Reading) (journal : List Entry)
    → (Legal set plan cells journal → Composed set plan cells journal) × (Composed set plan cells journal → Legal set plan cells journal)

abbrev pub LegalStarted : Type 0
LegalStarted = (set : Setup) (plan : Plan) (cells : List Reading) (journal : List Entry) → Legal set plan cells journal → Started set plan cells journal

-- ---- parts of a run

abbrev pub CellsJoin : Type 0
CellsJoin =
    (set : Setup) (n : ℕ) (cells more : List Reading) (ran : Ran)
    → run_cells set n (cells ++ more) ran ≡ going (run_cells set n cells ran) (λ r. run_cells set (n + length cells) more r)

-- it comes to its end, with no entry left, or to the journal's
abbrev pub AtEnd : {A : Type 0} → (A → Walk) → Course A → Type 0
AtEnd walk (Goes a) = (walk a).rest ≡ []
AtEnd walk (UsedUp w) = w.rest ≡ []
AtEnd walk Differs = ⊥

abbrev pub UsedUpStays : Type 0
UsedUpStays =
    ((set : Setup) (c : Call) (d : Definitions) (w : Walk) → w.rest ≡ [] → AtEnd (λ a. a.walk) (answer set c d w))
    × ((set : Setup) (t : Play) (w : Walk) → w.rest ≡ [] → AtEnd (λ r. r.1) (play_along set t w))
    × ((set : Setup) (n : ℕ) (cells : List Reading) (ran : Ran) → ran.walk.rest ≡ [] → AtEnd (λ r. r.walk) (run_cells set n cells ran))
