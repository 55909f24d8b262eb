-- The sequential run of a script along a journal.
--     Walk                   the core, what was posted so far, and the entries that are left
--     Course                 how far it comes: it goes on, the journal is used up, or an entry is another than the one that it defines
--     answer                 how the journal answers a call of a cell: the reply, the definitions after it, and the walk
--     play_along             a whole evaluation, each call answered so
--     run                    the first m cells of a script
--     legal, transcript      whether a journal is one of the script's; the lines that are written
--     started                whether a journal may be the beginning of one
use Rattle.std.specs.Prelude.{ℕ, suc, pos, List, [], ◌∷◌, ◌++◌, map, length, drop, take, Bool, true, false, ◌&&◌, ◌==◌, ltb, T, Option, Some, None}
use Rattle.std.specs.Ordering.{is_eq}
use Rattle.expr_tree.specs.declared.sym.Sym.{Sym}
use Rattle.expr_tree.specs.Tree.{Tree, integer, depth}
use Rattle.expr_tree.specs.Order.{text_cmp}
use Rattle.semantics.specs.declared.builtin.Builtin.{Builtin}
use Rattle.semantics.specs.Names.{Names, is_name}
use Rattle.semantics.specs.Definitions.{Definitions, empty}
use Rattle.semantics.specs.Program.{Mode, Request, Call}
use Rattle.semantics.specs.Play.{State, End, Reply, Play, Over, Calls, whole}
use Rattle.semantics.specs.Ends.{aborted, shown_end}
use Rattle.semantics.specs.Eval.{same_symbols}
use Rattle.journal.specs.Places.{given}
use Rattle.journal.specs.Closure.{bundle, symbols_of, symbols_of_all}
use Rattle.journal.specs.declared.event.Wait.{Wait}
use Rattle.journal.specs.declared.event.Event.{Event}
use Rattle.journal.specs.declared.event.Entry.{Entry}
use Rattle.journal.specs.declared.item.Item.{Item}
use Rattle.journal.specs.Entry.{Text, Handed, Posted}
use Rattle.journal.specs.Core.{Setup, Core, start, step, all_free, wait_reply, in_mode, count, null}
use Rattle.journal.specs.Follow.{Plan, all_run}
use Rattle.journal.specs.Forms.{Next, Replies, Awaits, Form, Answers, Submits, form}

pub record Walk : Type 0 where
  pub core : Core
  pub posted : List Posted
  pub rest : List Entry

-- where the journal is used up before an end, what was posted by then
pub data Course (A : Type 0) : Type 0 where
  Goes : A → Course A
  UsedUp : Walk → Course A
  Differs : Course A

abbrev pub going : {A B : Type 0} → Course A → (A → Course B) → Course B
going (Goes a) k = k a
going (UsedUp w) k = UsedUp w
going Differs k = Differs

abbrev pub or_differs : {A : Type 0} → Bool → Course A → Course A
or_differs true o = o
or_differs false o = Differs

-- whatever comes next is another entry
abbrev pub no_entry : {A : Type 0} → Walk → List Entry → Course A
no_entry w [] = UsedUp w
no_entry w (e ∷ es) = Differs

-- the end of a run that comes to it
abbrev pub arrived : {A : Type 0} → Course A → Option A
arrived (Goes a) = Some a
arrived (UsedUp w) = None
arrived Differs = None

-- one entry, with what is handed in beside it
abbrev pub post : Setup → Handed → Walk → Entry → List Entry → Course Walk
post set h w e rest =
    let p : Posted = record { entry = e; handed = h } in
    elim (step set w.core p) [ None ↦ Differs | Some c ↦ Goes (record { core = c; posted = w.posted ++ p ∷ []; rest = rest }) ]

-- whether an entry is the master's with this event; replies and texts are the core's to judge
abbrev pub same_ids : List ℕ → List ℕ → Bool
same_ids [] [] = true
same_ids (m ∷ ms) (n ∷ ns) = elim (m == n) [ true ↦ same_ids ms ns | false ↦ false ]
same_ids _ _ = false

abbrev pub same_wait : Wait → Wait → Bool
same_wait (Wait.All is) (Wait.All js) = same_ids is js
same_wait (Wait.Next is) (Wait.Next js) = same_ids is js
same_wait (Wait.Try is) (Wait.Try js) = same_ids is js
same_wait (Wait.Locks ls) (Wait.Locks ms) = same_symbols ls ms
same_wait _ _ = false

abbrev pub is_event : Event → Event → Bool
is_event (Event.Submit i) (Event.Submit j) = i == j
is_event (Event.Yield v) (Event.Yield w) = same_wait v w
is_event Event.Resume Event.Resume = true
is_event (Event.Ask m) (Event.Ask n) = m == n
is_event (Event.Print t) (Event.Print u) = is_eq (text_cmp t u)
is_event (Event.Enter ls) (Event.Enter ms) = same_symbols ls ms
is_event Event.Leave Event.Leave = true
is_event Event.Close Event.Close = true
is_event _ _ = false

-- the next entry has to be the master's with this event
abbrev pub post_next : Setup → Event → Handed → Walk → List Entry → Course Walk
post_next set event h w [] = UsedUp w
post_next set event h w (e ∷ es) = or_differs ((e.kernel == 0) && is_event event e.event) (post set h w e es)

abbrev pub master_posts : Setup → Event → Handed → Walk → Course Walk
master_posts set event h w = post_next set event h w w.rest

abbrev pub is_resume : Event → Bool
is_resume Event.Resume = true
is_resume _ = false

-- the entries up to Resume, whoever posts them; with the reply of the wait
abbrev pub until_resume : Setup → Walk → List Entry → Course (List Tree × Walk)
until_resume set w [] = UsedUp w
until_resume set w (e ∷ es) =
    going (post set Handed.Nothing w e es) (λ v.
    elim (is_resume e.event) [ true ↦ Goes (wait_reply set.names w.core, v) | false ↦ until_resume set v es ])

-- a Yield and the entries up to Resume
abbrev pub wait_for : Setup → Definitions → Wait → Walk → Course (List Tree × Walk)
wait_for set d wait w = going (master_posts set (Event.Yield wait) (Handed.Lent d) w) (λ v. until_resume set v v.rest)

-- an item goes with the bundle of its symbols; that of a batch is taken over the list of its applications
abbrev pub seeds_of : Item → List Sym
seeds_of (Item.Plain e) = symbols_of e
seeds_of (Item.Batch es) = symbols_of_all es
seeds_of (Item.Pinned k e) = symbols_of e

-- items in order, with their ids
abbrev pub submit_all : Setup → Definitions → List Item → Walk → Course (List ℕ × Walk)
submit_all set d [] w = Goes ([], w)
submit_all set d (i ∷ is) w =
    going (master_posts set (Event.Submit (suc (length w.core.items))) (Handed.Given i (bundle set.names d (seeds_of i))) w)
    (λ v. going (submit_all set d is v) (λ r. Goes (suc (length w.core.items) ∷ r.0, r.1)))

-- ---- calls

pub record Answered : Type 0 where
  pub reply : Reply
  pub after : Definitions
  pub walk : Walk

abbrev pub replied : Tree → Definitions → Course Walk → Course Answered
replied v d o = going o (λ w. Goes (record { reply = Reply.Replied v; after = d; walk = w }))

abbrev pub by_next : Setup → Definitions → Next → Walk → Course Answered
by_next set d (Replies reply) w = Goes (record { reply = reply; after = d; walk = w })
by_next set d (Awaits wait k) w =
    going (wait_for set d wait w) (λ r. Goes (record { reply = k r.0; after = r.1.core.definitions; walk = r.1 }))

abbrev pub by_form : Setup → Definitions → Form → Walk → Course Answered
by_form set d (Answers reply after) w = Goes (record { reply = reply; after = after; walk = w })
by_form set d (Submits items k) w = going (submit_all set d items w) (λ r. by_next set d (k r.0) r.1)

-- the master enters where every lock is free, and else waits for that; the definitions after a wait are the core's
abbrev pub enter : Setup → Definitions → List Sym → Walk → Course Answered
enter set d locks w =
    elim (all_free w.core locks) [
      | true ↦ replied (null set.names) d (master_posts set (Event.Enter locks) Handed.Nothing w)
      | false ↦ going (wait_for set d (Wait.Locks locks) w) (λ r. replied (null set.names) r.1.core.definitions (master_posts set (Event.Enter locks) Handed.Nothing r.1))
    ]

abbrev pub answer : Setup → Call → Definitions → Walk → Course Answered
answer set (Call.Sends Request.Count) d w = replied (integer (pos (count w.core))) d (master_posts set (Event.Ask (count w.core)) Handed.Nothing w)
answer set (Call.Sends (Request.Print t)) d w = replied (null set.names) d (master_posts set (Event.Print t) Handed.Nothing w)
answer set Call.Leave d w = replied (null set.names) d (master_posts set Event.Leave Handed.Nothing w)
answer set (Call.Enter locks) d w = enter set d locks w
answer set (Call.Sends (Request.Outside e)) d w = by_form set d (form set w.core d e) w
answer set (Call.Sends (Request.Access e)) d w = no_entry w w.rest

-- how an evaluation ended, and its state there
pub record Finish : Type 0 where
  pub end : End
  pub state : State

-- an evaluation along the journal
abbrev pub play_along : Setup → Play → Walk → Course (Finish × Walk)
play_along set (Over end s) w = Goes (record { end = end; state = s }, w)
play_along set (Calls c s k) w = going (answer set c s.definitions w) (λ a. play_along set (k a.reply a.after) a.walk)

-- ---- cells

-- what a cell's text is read as; `Unread` has the offset of the fault
pub data Reading : Type 0 where
  Unread : ℕ → Reading
  Reads : Tree → Reading

pub data Line : Type 0 where
  -- a text that was printed; the value of the n-th cell; the n-th cell has no reading, with the offset; an entry with its number
  Printed : Text → Line
  Out : ℕ → Tree → Line
  Syntax : ℕ → ℕ → Line
  Listed : ℕ → Entry → Line

pub record Ran : Type 0 where
  pub walk : Walk
  pub definitions : Definitions
  pub lines : List Line

-- nothing is written for the value Null
abbrev pub out_line : Names → ℕ → Tree → List Line
out_line names n v = elim (is_name names Builtin.Null v) [ true ↦ [] | false ↦ Out n v ∷ [] ]

-- a cell's lines: what was printed during it, and its value
abbrev pub cell_lines : Setup → ℕ → Walk → Walk → Tree → List Line
cell_lines set n before w v = map Printed (drop (length before.core.lines) w.core.lines) ++ out_line set.names n v

abbrev pub after_cell : Setup → ℕ → Ran → Finish × Walk → Ran
after_cell set n ran r =
    record { walk = r.1; definitions = (r.0).state.definitions; lines = ran.lines ++ cell_lines set n ran.walk r.1 (shown_end set.names set.limits (r.0).end) }

abbrev pub with_lines : List Line → Ran → Ran
with_lines ls ran = record ran { lines = ran.lines ++ ls }

-- a cell whose reading is too deep is not evaluated
abbrev pub run_cell : Setup → ℕ → Reading → Ran → Course Ran
run_cell set n (Unread at) ran = Goes (with_lines (Syntax n at ∷ []) ran)
run_cell set n (Reads e) ran =
    elim (ltb set.limits.depth (depth e)) [
      | true ↦ Goes (with_lines (out_line set.names n (aborted set.names)) ran)
      | false ↦ going (play_along set (whole (in_mode set Mode.Cell 0) ran.definitions e) ran.walk) (λ r. Goes (after_cell set n ran r))
    ]

abbrev pub run_cells : Setup → ℕ → List Reading → Ran → Course Ran
run_cells set n [] ran = Goes ran
run_cells set n (c ∷ cs) ran = going (run_cell set n c ran) (λ r. run_cells set (suc n) cs r)

abbrev pub is_loss : Event → Bool
is_loss (Event.Lose cause) = true
is_loss _ = false

-- losses that come before the master posts anything
abbrev pub first_losses : Setup → Walk → List Entry → Course Walk
first_losses set w [] = Goes w
first_losses set w (e ∷ es) = elim (is_loss e.event) [ true ↦ going (post set Handed.Nothing w e es) (λ v. first_losses set v es) | false ↦ Goes w ]

abbrev pub first_walk : Setup → List Entry → Walk
first_walk set journal = record { core = start set; posted = []; rest = journal }

-- the first m cells
abbrev pub run_along : Setup → List Reading → List Entry → ℕ → Course Ran
run_along set cells journal m =
    going (first_losses set (first_walk set journal) journal)
    (λ w. run_cells set 1 (take m cells) (record { walk = w; definitions = empty; lines = [] }))

abbrev pub run : Setup → List Reading → List Entry → ℕ → Option Ran
run set cells journal m = arrived (run_along set cells journal m)

-- ---- legal journals

abbrev pub is_over : List Entry → Bool
is_over [] = true
is_over (e ∷ es) = false

-- Close is the last entry
abbrev pub closes : Setup → Walk → Course Walk
closes set w = going (master_posts set Event.Close Handed.Nothing w) (λ v. or_differs (is_over v.rest) (Goes v))

-- all cells, and Close
abbrev pub whole_run : Setup → List Reading → List Entry → Course Walk
whole_run set cells journal = going (run_along set cells journal (length cells)) (λ ran. closes set ran.walk)

-- the whole journal with what was handed in, if the run over all cells is defined on it
abbrev pub posted_by : Setup → List Reading → List Entry → Option (List Posted)
posted_by set cells journal = given (arrived (whole_run set cells journal)) (λ w. Some w.posted)

-- the same where the journal may end sooner
abbrev pub used_by : Course Walk → Option (List Posted)
used_by (Goes w) = Some w.posted
used_by (UsedUp w) = Some w.posted
used_by Differs = None

abbrev pub begun_by : Setup → List Reading → List Entry → Option (List Posted)
begun_by set cells journal = used_by (whole_run set cells journal)

abbrev pub kernels_run : Setup → Plan → Option (List Posted) → Bool
kernels_run set plan None = false
kernels_run set plan (Some ps) = all_run set plan set.kernels ps

abbrev pub legal : Setup → Plan → List Reading → List Entry → Bool
legal set plan cells journal = kernels_run set plan (posted_by set cells journal)

abbrev pub Legal : Setup → Plan → List Reading → List Entry → Type 0
Legal set plan cells journal = T (legal set plan cells journal)

-- the run meets no entry other than the one that it defines until the journal is used up
abbrev pub started : Setup → Plan → List Reading → List Entry → Bool
started set plan cells journal = kernels_run set plan (begun_by set cells journal)

abbrev pub Started : Setup → Plan → List Reading → List Entry → Type 0
Started set plan cells journal = T (started set plan cells journal)

-- ---- transcripts

abbrev pub journal_lines : ℕ → List Entry → List Line
journal_lines n [] = []
journal_lines n (e ∷ es) = Listed n e ∷ journal_lines (suc n) es

-- the lines of the first m cells, and after all cells those of the journal, if they are asked for
abbrev pub transcript : Setup → Bool → List Reading → List Entry → ℕ → Option (List Line)
transcript set with_journal cells journal m =
    given (run set cells journal m) (λ ran. Some (ran.lines ++ elim (with_journal && (m == length cells)) [ true ↦ journal_lines 1 journal | false ↦ [] ]))

-- what is written, where `line` gives the bytes of a line
abbrev pub written : (Line → Text) → List Line → Text
written line [] = []
written line (l ∷ ls) = line l ++ written line ls
