-- Statements over all journals.
--     SectionsApart, OneResult, AllHaveResults      sections that share a lock; results of an item
--     LegalReplays, OneJournal                      legal journals are replays; with no kernels there is one
--     RunGrows, EntryByEntry                        journals that grow
--     AttemptsAgree, PhaseIsAttempt                 attempts of the core, items and kernels
--     AttemptsOrdered, LocksAgree                   sections of attempts, and the locks of the core
--     ClosureIsLeast, CutsPartition                 what is computed of definitions and of lists
--     QuietComputed, QuietNamedComputed             and of applications
use Rattle.std.specs.Prelude.{◌≡◌, ℕ, zero, suc, ◌≤◌, List, [], ◌∷◌, ◌++◌, length, Bool, true, false, not, T, Option, Some, None}
use Rattle.expr_tree.specs.declared.sym.Sym.{Sym}
use Rattle.expr_tree.specs.Tree.{Tree}
use Rattle.semantics.specs.Names.{Names}
use Rattle.semantics.specs.Definitions.{Definitions}
use Rattle.semantics.specs.Program.{Call}
use Rattle.semantics.specs.Play.{Reply, Play}
use Rattle.semantics.specs.Opened.{opens, may_call}
use Rattle.journal.specs.Places.{member}
use Rattle.journal.specs.Closure.{InClosure, reaches, closure}
use Rattle.journal.specs.Cuts.{Method, Per, cut}
use Rattle.journal.specs.declared.event.Wait.{Wait}
use Rattle.journal.specs.declared.event.Event.{Event}
use Rattle.journal.specs.declared.event.Entry.{Entry}
use Rattle.journal.specs.declared.item.Item.{Item}
use Rattle.journal.specs.Entry.{Posted}
use Rattle.journal.specs.Core.{Setup, Core, start, allowed, step, replay, attempt_of, holds_nothing, status_of, runs_or_dropped}
use Rattle.journal.specs.Follow.{Plan, Attempt, Wants, Delivers, Quits, Stuck, attempt, View, Phase, Free, At, Lost, watch, kernel_run}
use Rattle.journal.specs.Spans.{sections, NeverOverlap, results}
use Rattle.journal.specs.Quiet.{IsQuiet, quiet_value, IsQuietNamed, quiet_named_value}
use Rattle.journal.specs.Run.{Reading, Legal, Walk, Goes, Answered, Ran, answer, Finish, play_along, run_cells, posted_by}

-- two sections that share a lock never overlap
abbrev pub SectionsApart : Type 0
SectionsApart = (set : Setup) (ps : List Posted) (c : Core) → replay set ps ≡ Some c → NeverOverlap (sections 1 ps)

-- an item has at most one result
abbrev pub OneResult : Type 0
OneResult = (set : Setup) (ps : List Posted) (c : Core) → replay set ps ≡ Some c → (id : ℕ) → length (results set (start set) ps id) ≤ 1

-- where the Resume of a wait for all of some items may be posted, each of them has exactly one
abbrev pub AllHaveResults : Type 0
AllHaveResults =
    (set : Setup) (ps : List Posted) (c : Core) → replay set ps ≡ Some c
    → (p : Posted) (ids : List ℕ) → p.entry.event ≡ Event.Resume → c.wait ≡ Some (Wait.All ids) → allowed set c p ≡ true
    → (id : ℕ) → member id ids ≡ true → length (results set (start set) ps id) ≡ 1

-- with no kernels a script has at most one journal
abbrev pub OneJournal : Type 0
OneJournal =
    (set : Setup) (plan : Plan) (cells : List Reading) (h j : List Entry) → set.kernels ≡ 0 → Legal set plan cells h → Legal set plan cells j → h ≡ j

-- ---- longer journals

abbrev pub longer : List Entry → Walk → Walk
longer further w = record w { rest = w.rest ++ further }

abbrev pub longer_answer : List Entry → Answered → Answered
longer_answer further a = record a { walk = longer further a.walk }

abbrev pub longer_ran : List Entry → Ran → Ran
longer_ran further ran = record ran { walk = longer further ran.walk }

-- a call, a whole evaluation, and a list of cells use up entries from the front, and do not look beyond those
abbrev pub RunGrows : Type 0
RunGrows =
    ((set : Setup) (c : Call) (d : Definitions) (w : Walk) (further : List Entry) (a : Answered) → answer set c d w ≡ Goes a → answer set c d (longer further w) ≡ Goes (longer_answer further a))
    × ((set : Setup) (t : Play) (w : Walk) (further : List Entry) (r : Finish × Walk) → play_along set t w ≡ Goes r → play_along set t (longer further w) ≡ Goes (r.0, longer further r.1))
    × ((set : Setup) (n : ℕ) (cells : List Reading) (ran : Ran) (further : List Entry) (r : Ran) → run_cells set n cells ran ≡ Goes r → run_cells set n cells (longer_ran further ran) ≡ Goes (longer_ran further r))

-- ---- legal journals

abbrev pub entries_of : List Posted → List Entry
entries_of [] = []
entries_of (p ∷ ps) = p.entry ∷ entries_of ps

-- where the run over all cells is defined on a journal, it is a replay, with what the run hands in
abbrev pub LegalReplays : Type 0
LegalReplays =
    (set : Setup) (cells : List Reading) (journal : List Entry) (ps : List Posted) → posted_by set cells journal ≡ Some ps
    → (entries_of ps ≡ journal) × ((c : Core) × (replay set ps ≡ Some c))

-- ---- one entry more

-- the core makes one step, and each kernel's view one
abbrev pub EntryByEntry : Type 0
EntryByEntry =
    ((set : Setup) (ps : List Posted) (p : Posted) (c : Core) → replay set ps ≡ Some c → replay set (ps ++ p ∷ []) ≡ step set c p)
    × ((set : Setup) (plan : Plan) (k : ℕ) (ps : List Posted) (p : Posted) (v : View) → kernel_run set plan k ps ≡ Some v → kernel_run set plan k (ps ++ p ∷ []) ≡ watch set plan k v p)

-- whoever has an attempt at an item runs it, or it was dropped
abbrev pub AttemptsAgree : Type 0
AttemptsAgree =
    (set : Setup) (ps : List Posted) (c : Core) → replay set ps ≡ Some c → (k id : ℕ) → attempt_of c k ≡ Some id → runs_or_dropped k (status_of c id) ≡ true

-- what the core says of a kernel's attempt
abbrev pub Matches : Phase → Option ℕ → Type 0
Matches (Free d) o = o ≡ None
Matches (At id a) o = o ≡ Some id
Matches Lost o = o ≡ None

-- a kernel, or with 0 the stand-in, that follows its evaluations has the attempt that it is in
abbrev pub PhaseIsAttempt : Type 0
PhaseIsAttempt =
    (set : Setup) (plan : Plan) (k : ℕ) (ps : List Posted) (c : Core) (v : View) → k ≤ set.kernels → replay set ps ≡ Some c → kernel_run set plan k ps ≡ Some v → Matches v.phase (attempt_of c k)

-- ---- what an item takes with it

-- the computed closure is the least closed set
abbrev pub ClosureIsLeast : Type 0
ClosureIsLeast =
    (names : Names) (d : Definitions) (seeds : List Sym) (s : Sym)
    → (reaches names (closure names d seeds) s ≡ true → InClosure names d seeds s) × (InClosure names d seeds s → reaches names (closure names d seeds) s ≡ true)

-- ---- chunks

-- each method cuts, but for chunks of none
abbrev pub is_usable : Method → Bool
is_usable (Per zero) = false
is_usable _ = true

abbrev pub chunks_joined : List (List Tree) → List Tree
chunks_joined [] = []
chunks_joined (c ∷ cs) = c ++ chunks_joined cs

abbrev pub NoneEmpty : List (List Tree) → Type 0
NoneEmpty [] = Unit {0}
NoneEmpty (c ∷ cs) = (1 ≤ length c) × NoneEmpty cs

-- the chunks of a list are its elements in order, and none of them is empty
abbrev pub CutsPartition : Type 0
CutsPartition =
    (method : Method) (kernels : ℕ) (es : List Tree) → is_usable method ≡ true
    → (chunks_joined (cut method kernels es) ≡ es) × NoneEmpty (cut method kernels es)

-- ---- sections of attempts

-- what is left of an attempt, inside a section or not: it enters one only outside, leaves one only inside, and delivers outside
pub data Ordered : Bool → Attempt → Type 0 where
  wants : {inside : Bool} {c : Call} {next : Reply → Attempt} → T (may_call c inside)
      → ((v : Tree) → Ordered (opens c (Reply.Replied v) inside) (next (Reply.Replied v))) → Ordered inside (Wants c next)
  delivers : {v : Tree} {d : Definitions} → Ordered false (Delivers v d)
  quits : {inside : Bool} → Ordered inside Quits
  stuck : {inside : Bool} → Ordered inside Stuck

-- each attempt begins outside and goes on so
abbrev pub AttemptsOrdered : Type 0
AttemptsOrdered = (set : Setup) (k : ℕ) (item : Item) (d : Definitions) → Ordered false (attempt set k item d)

abbrev pub StandsIn : Phase → Bool → Type 0
StandsIn (Free d) inside = inside ≡ false
StandsIn (At id a) inside = Ordered inside a
StandsIn Lost inside = inside ≡ false

-- a kernel that follows its evaluations holds locks exactly where its attempt is inside a section
abbrev pub LocksAgree : Type 0
LocksAgree =
    (set : Setup) (plan : Plan) (k : ℕ) (ps : List Posted) (c : Core) (v : View) → suc k ≤ set.kernels → replay set ps ≡ Some c → kernel_run set plan (suc k) ps ≡ Some v
    → StandsIn v.phase (not (holds_nothing c (suc k)))

-- ---- quiet applications

-- what is computed of an application is its value where it is quiet, and nothing elsewhere
abbrev pub QuietComputed : Type 0
QuietComputed =
    (set : Setup) (d : Definitions) (a : Tree)
    → ((value : Tree) → quiet_value set d a ≡ Some value → (quiet : IsQuiet set d a) × (quiet.value ≡ value)) × ((quiet : IsQuiet set d a) → quiet_value set d a ≡ Some quiet.value)

-- and where it is quiet but for generated names
abbrev pub QuietNamedComputed : Type 0
QuietNamedComputed =
    (set : Setup) (d : Definitions) (a : Tree)
    → ((value : Tree) → quiet_named_value set d a ≡ Some value → (quiet : IsQuietNamed set d a) × (quiet.value ≡ value))
    × ((quiet : IsQuietNamed set d a) → quiet_named_value set d a ≡ Some quiet.value)
