-- What a kernel posts: its own entries are what its evaluations ask, one after the other.
--     Attempt                what a kernel does with an item: one call after the other, up to what it delivers
--     View, watch            a kernel as seen in a journal; what one entry of the journal makes of that
--     Plan                   the entries that are losses
--     kernel_run             a whole journal, seen so. It is undefined where an own entry is none that the kernel would post
use Rattle.std.specs.Prelude.{ℕ, zero, suc, pos, List, [], ◌∷◌, ◌++◌, reverse, Bool, true, false, ◌&&◌, ◌||◌, not, ◌==◌, T, Option, Some, None}
use Rattle.std.specs.Ordering.{is_eq}
use Rattle.expr_tree.specs.declared.sym.Sym.{Sym}
use Rattle.expr_tree.specs.Tree.{Tree, integer}
use Rattle.expr_tree.specs.Order.{same, text_cmp}
use Rattle.semantics.specs.declared.builtin.Builtin.{Builtin}
use Rattle.semantics.specs.Names.{Names, make}
use Rattle.semantics.specs.Definitions.{Definitions, empty}
use Rattle.semantics.specs.Program.{Mode, Request, Call}
use Rattle.semantics.specs.Play.{State, End, Reply, Play, Over, Calls, whole, too_large}
use Rattle.semantics.specs.Ends.{aborted, shown_end}
use Rattle.semantics.specs.Eval.{same_symbols}
use Rattle.journal.specs.Places.{nth, given, when, is_some}
use Rattle.journal.specs.Closure.{Bundle, install}
use Rattle.journal.specs.declared.loss.Loss.{Loss}
use Rattle.journal.specs.declared.event.Event.{Event}
use Rattle.journal.specs.declared.item.Item.{Item}
use Rattle.journal.specs.Entry.{Handed, Posted}
use Rattle.journal.specs.Core.{Setup, in_mode, null}

pub data Attempt : Type 0 where
  Wants : Call → (Reply → Attempt) → Attempt
  -- the result, and the definitions for the next attempt
  Delivers : Tree → Definitions → Attempt
  -- the kernel is lost at Quit[]
  Quits : Attempt
  -- nothing more is posted
  Stuck : Attempt

-- the calls of an evaluation, and then what its end makes; a kernel's calls change none of its definitions
abbrev pub attempt_of : Play → (End → State → Attempt) → Attempt
attempt_of (Over end s) k = k end s
attempt_of (Calls c s f) k = Wants c (λ reply. attempt_of (f reply s.definitions) k)

-- in the stand-in Quit[] is a stop, and an open section is left
abbrev pub after_quit : ℕ → Option (List Sym) → Attempt → Attempt
after_quit zero None go = go
after_quit zero (Some locks) go = Wants Call.Leave (λ reply. go)
after_quit (suc k) section go = Quits

-- what the end of one evaluation shows, and the definitions after it
abbrev pub showing : Setup → (Tree → Definitions → Attempt) → End → State → Attempt
showing set go end s = go (shown_end set.names set.limits end) s.definitions

abbrev pub valued : Setup → ℕ → (Tree → Definitions → Attempt) → End → State → Attempt
valued set k go (End.Value v) s = showing set go (End.Value v) s
valued set k go (End.Stopped cause) s = showing set go (End.Stopped cause) s
valued set k go (End.Throwing v) s = showing set go (End.Throwing v) s
valued set k go (End.Thrown v) s = showing set go (End.Thrown v) s
valued set k go End.Quit s = after_quit k s.open_section (showing set go End.Quit s)
valued set k go End.Closed s = Stuck
valued set k go End.Starved s = Stuck

-- kernel k evaluates e
abbrev pub evaluated : Setup → ℕ → Definitions → Tree → (Tree → Definitions → Attempt) → Attempt
evaluated set k d e go = attempt_of (whole (in_mode set Mode.Item k) d e) (valued set k go)

-- the List of a batch, within the limits of an expression
abbrev pub batch_value : Setup → List Tree → Tree
batch_value set vs =
    let v = make set.names Builtin.List vs in
    elim (too_large set.limits v) [ None ↦ v | Some cause ↦ aborted set.names ]

-- the applications in turn, each with fresh limits
abbrev pub applications : Setup → ℕ → List Tree → Definitions → List Tree → Attempt
applications set k [] d done = Delivers (batch_value set (reverse done)) d
applications set k (e ∷ es) d done = evaluated set k d e (λ v after. applications set k es after (v ∷ done))

abbrev pub attempt : Setup → ℕ → Item → Definitions → Attempt
attempt set k (Item.Plain e) d = evaluated set k d e Delivers
attempt set k (Item.Pinned j e) d = evaluated set k d e Delivers
attempt set k (Item.Batch es) d = applications set k es d []

-- ---- a kernel in a journal

pub data Phase : Type 0 where
  -- between attempts, with the kernel's own definitions
  Free : Definitions → Phase
  -- in an attempt at an item
  At : ℕ → Attempt → Phase
  Lost : Phase

-- the items submitted so far, the number of own entries, and where the kernel stands
pub record View : Type 0 where
  pub items : List (Item × Bundle)
  pub own : ℕ
  pub phase : Phase

abbrev pub first_view : View
first_view = record { items = []; own = 0; phase = Free empty }

-- the reply that an entry gives to a call, if it is the entry of this call
abbrev pub heard : Names → Call → Event → Option Reply
heard names (Call.Sends (Request.Access e)) (Event.Access f r) = when (same e f) (Some (Reply.Replied r))
heard names (Call.Sends Request.Count) (Event.Ask n) = Some (Reply.Replied (integer (pos n)))
heard names (Call.Sends (Request.Print t)) (Event.Print u) = when (is_eq (text_cmp t u)) (Some (Reply.Replied (null names)))
heard names (Call.Enter ls) (Event.Enter ms) = when (same_symbols ls ms) (Some (Reply.Replied (null names)))
heard names Call.Leave Event.Leave = Some (Reply.Replied (null names))
heard names _ _ = None

abbrev pub item_of : List (Item × Bundle) → ℕ → Option (Item × Bundle)
item_of items zero = None
item_of items (suc n) = nth items n

abbrev pub taken : Setup → ℕ → List (Item × Bundle) → Definitions → ℕ → Option Phase
taken set k items d id = given (item_of items id) (λ i. Some (At id (attempt set k i.0 (install set.names d i.1))))

-- an entry inside an attempt
abbrev pub attempted : Names → ℕ → Attempt → Event → Option Phase
attempted names id (Wants c f) event = given (heard names c event) (λ reply. Some (At id (f reply)))
attempted names id (Delivers v d) (Event.Deliver i w) = when ((id == i) && same v w) (Some (Free d))
attempted names id Quits (Event.Lose Loss.Quit) = Some Lost
attempted names id _ _ = None

-- where kernel k stands after an entry of its own that is no planned loss
abbrev pub moved : Setup → ℕ → List (Item × Bundle) → Phase → Event → Option Phase
moved set k items (Free d) (Event.Take id) = taken set k items d id
moved set k items (At id a) event = attempted set.names id a event
moved set k items _ _ = None

-- a kernel, and the number of its entry that is a loss
abbrev pub Plan : Type 0
Plan = List (ℕ × ℕ)

abbrev pub is_planned : Plan → ℕ → ℕ → Bool
is_planned [] k n = false
is_planned (p ∷ ps) k n = ((p.0 == k) && (p.1 == n)) || is_planned ps k n

abbrev pub is_lost : Phase → Bool
is_lost Lost = true
is_lost _ = false

-- the n-th entry is a planned loss exactly where the plan names it
abbrev pub or_planned : Bool → Event → Option Phase → Option Phase
or_planned true (Event.Lose Loss.Plan) o = Some Lost
or_planned true _ o = None
or_planned false _ o = o

-- a kernel that was not started has one entry, which says so
abbrev pub own_entry : Setup → Plan → ℕ → View → Event → Option Phase
own_entry set plan k v (Event.Lose Loss.NotStarted) = when (v.own == 0) (Some Lost)
own_entry set plan k v event = when (not (is_lost v.phase)) (or_planned (is_planned plan k (suc v.own)) event (moved set k v.items v.phase event))

-- of the entries of kernel 0 those are the stand-in's that stand from a Take to its Deliver
abbrev pub stand_in_entry : Setup → View → Phase → Event → Option Phase
stand_in_entry set v (Free d) (Event.Take id) = taken set 0 v.items d id
stand_in_entry set v (At id a) event = attempted set.names id a event
stand_in_entry set v phase event = Some phase

abbrev pub entry_of : Setup → Plan → ℕ → View → Event → Option Phase
entry_of set plan zero v event = stand_in_entry set v v.phase event
entry_of set plan (suc k) v event = own_entry set plan (suc k) v event

-- an item with its bundle is handed in at Submit alone
abbrev pub with_handed : Event → Handed → List (Item × Bundle) → List (Item × Bundle)
with_handed (Event.Submit id) (Handed.Given item b) items = items ++ (item, b) ∷ []
with_handed _ _ items = items

abbrev pub watch : Setup → Plan → ℕ → View → Posted → Option View
watch set plan k v p =
    elim (p.entry.kernel == k) [
      | false ↦ Some (record v { items = with_handed p.entry.event p.handed v.items })
      | true ↦ given (entry_of set plan k v p.entry.event) (λ phase. Some (record { items = with_handed p.entry.event p.handed v.items; own = suc v.own; phase = phase }))
    ]

abbrev pub watch_from : Setup → Plan → ℕ → View → List Posted → Option View
watch_from set plan k v [] = Some v
watch_from set plan k v (p ∷ ps) = given (watch set plan k v p) (λ w. watch_from set plan k w ps)

abbrev pub kernel_run : Setup → Plan → ℕ → List Posted → Option View
kernel_run set plan k ps = watch_from set plan k first_view ps

-- what kernel k, or with 0 the stand-in, has posted is what it would post
abbrev pub KernelRun : Setup → Plan → ℕ → List Posted → Type 0
KernelRun set plan k ps = T (is_some (kernel_run set plan k ps))

-- the same of the kernels up to n, and of the stand-in
abbrev pub all_run : Setup → Plan → ℕ → List Posted → Bool
all_run set plan zero ps = is_some (kernel_run set plan 0 ps)
all_run set plan (suc n) ps = is_some (kernel_run set plan (suc n) ps) && all_run set plan n ps
