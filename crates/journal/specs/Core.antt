-- The core: what the master and the kernels share, and what each entry does to it.
--     Core                   the master's definitions, the items, the kernels, the standing wait, the lines printed
--     allowed, effect        whether an entry may be posted; what it changes
--     step                   both together
--     replay                 a whole journal, from the start
--     reply_to               what a wait gives at its end
use Rattle.std.specs.Prelude.{ℕ, zero, suc, pos, List, [], ◌∷◌, ◌++◌, map, length, replicate, Bool, true, false, ◌&&◌, ◌||◌, not, ◌==◌, Option, Some, None}
use Rattle.expr_tree.specs.declared.sym.Sym.{Sym}
use Rattle.expr_tree.specs.Tree.{Tree, integer}
use Rattle.expr_tree.specs.Order.{same}
use Rattle.semantics.specs.declared.builtin.Builtin.{Builtin}
use Rattle.semantics.specs.Names.{Names, name, is_name, make}
use Rattle.expr_tree.specs.Substitution.{among}
use Rattle.semantics.specs.Definitions.{Definitions, empty, is_empty}
use Rattle.semantics.specs.Program.{Mode, Request, Call}
use Rattle.expr_tree.specs.declared.limits.Limits.{Limits}
use Rattle.semantics.specs.Play.{Setting, Reply, Play, Over, Calls, whole}
use Rattle.semantics.specs.Ends.{shown_end}
use Rattle.journal.specs.declared.recover.Recover.{Recover}
use Rattle.journal.specs.Places.{nth, change_at, each_from, member, is_some}
use Rattle.journal.specs.Closure.{Bundle}
use Rattle.journal.specs.declared.item.Status.{Status}
use Rattle.journal.specs.declared.item.Status.TheVariants.{Waiting, Running, Done, Dropped}
use Rattle.journal.specs.declared.event.Wait.{Wait}
use Rattle.journal.specs.declared.event.Event.{Event}
use Rattle.journal.specs.declared.item.Item.{Item}
use Rattle.journal.specs.Entry.{Text, Handed, Posted}

-- what does not change in a run: `shown` is the text of a value as an Out line shows it
pub record Setup : Type 0 where
  pub names : Names
  pub shown : Tree → Text
  pub kernels : ℕ
  pub limits : Limits
  pub recovery : Recover

pub record Queued : Type 0 where
  pub item : Item
  pub bundle : Bundle
  pub status : Status

-- a kernel's attempt is the item that it runs; its locks are those of its open section
pub record Kernel : Type 0 where
  pub lives : Bool
  pub attempt : Option ℕ
  pub locks : List Sym

-- items stand in the order of their ids, from 1; kernels in the order of their numbers, from 0, which is the master's and never lives
pub record Core : Type 0 where
  pub definitions : Definitions
  pub items : List Queued
  pub kernels : List Kernel
  pub wait : Option Wait
  -- the ids in the order in which they got their results
  pub finished : List ℕ
  pub lines : List Text
  -- whether kernel 0 has posted
  pub begun : Bool
  pub closed : Bool

abbrev pub new_kernel : Bool → Kernel
new_kernel lives = record { lives = lives; attempt = None; locks = [] }

abbrev pub start : Setup → Core
start set =
    record {
      definitions = empty;
      items = [];
      kernels = new_kernel false ∷ replicate set.kernels (new_kernel true);
      wait = None;
      finished = [];
      lines = [];
      begun = false;
      closed = false;
    }

-- ---- what is read of a core

abbrev pub lives : Core → ℕ → Bool
lives c k = elim (nth c.kernels k) [ None ↦ false | Some x ↦ x.lives ]

abbrev pub attempt_of : Core → ℕ → Option ℕ
attempt_of c k = elim (nth c.kernels k) [ None ↦ None | Some x ↦ x.attempt ]

abbrev pub locks_of : Core → ℕ → List Sym
locks_of c k = elim (nth c.kernels k) [ None ↦ [] | Some x ↦ x.locks ]

abbrev pub count_living : List Kernel → ℕ
count_living [] = 0
count_living (k ∷ ks) = elim k.lives [ true ↦ suc (count_living ks) | false ↦ count_living ks ]

abbrev pub count : Core → ℕ
count c = count_living c.kernels

abbrev pub has_attempt : Core → ℕ → Bool
has_attempt c k = is_some (attempt_of c k)

abbrev pub holds_nothing : Core → ℕ → Bool
holds_nothing c k = is_empty (locks_of c k)

abbrev pub held_by_some : List Kernel → Sym → Bool
held_by_some [] l = false
held_by_some (k ∷ ks) l = among l k.locks || held_by_some ks l

abbrev pub all_free : Core → List Sym → Bool
all_free c [] = true
all_free c (l ∷ ls) = not (held_by_some c.kernels l) && all_free c ls

abbrev pub no_wait : Core → Bool
no_wait c = not (is_some c.wait)

abbrev pub item_at : Core → ℕ → Option Queued
item_at c zero = None
item_at c (suc n) = nth c.items n

abbrev pub status_of : Core → ℕ → Option Status
status_of c id = elim (item_at c id) [ None ↦ None | Some q ↦ Some q.status ]

abbrev pub is_dropped : Option Status → Bool
is_dropped None = true
is_dropped (Some (Dropped)) = true
is_dropped (Some _) = false

-- an id names an item where it was submitted and not dropped
abbrev pub names_item : Core → ℕ → Bool
names_item c id = not (is_dropped (status_of c id))

abbrev pub name_items : Core → List ℕ → Bool
name_items c [] = true
name_items c (id ∷ ids) = names_item c id && name_items c ids

abbrev pub value_in : Option Status → Option Tree
value_in (Some (Done v)) = Some v
value_in _ = None

abbrev pub result_of : Core → ℕ → Option Tree
result_of c id = value_in (status_of c id)

abbrev pub all_done : Core → List ℕ → Bool
all_done c [] = true
all_done c (id ∷ ids) = is_some (result_of c id) && all_done c ids

abbrev pub any_done : Core → List ℕ → Bool
any_done c [] = false
any_done c (id ∷ ids) = is_some (result_of c id) || any_done c ids

abbrev pub is_success : Names → Option Tree → Bool
is_success names None = false
is_success names (Some v) = not (is_name names Builtin.Failed v)

abbrev pub any_success : Names → Core → List ℕ → Bool
any_success names c [] = false
any_success names c (id ∷ ids) = is_success names (result_of c id) || any_success names c ids

-- a wait's condition
abbrev pub holds : Names → Core → Wait → Bool
holds names c (Wait.All ids) = all_done c ids
holds names c (Wait.Next ids) = any_done c ids
holds names c (Wait.Try ids) = any_success names c ids || all_done c ids
holds names c (Wait.Locks ls) = all_free c ls

abbrev pub condition_holds : Names → Core → Bool
condition_holds names c = elim c.wait [ None ↦ false | Some w ↦ holds names c w ]

-- ---- taking

-- a pinned item is for its kernel alone
abbrev pub may_go : Item → ℕ → Bool
may_go (Item.Pinned j e) k = j == k
may_go _ k = true

abbrev pub is_waiting : Status → Bool
is_waiting Waiting = true
is_waiting _ = false

-- the least waiting id that the kernel may take
abbrev pub first_for : ℕ → List Queued → ℕ → Option ℕ
first_for id [] k = None
first_for id (q ∷ qs) k = elim (is_waiting q.status && may_go q.item k) [ true ↦ Some id | false ↦ first_for (suc id) qs k ]

abbrev pub is_id : ℕ → Option ℕ → Bool
is_id id None = false
is_id id (Some i) = id == i

-- the stand-in takes items only while no kernel lives and the condition is false
abbrev pub may_take : Setup → Core → ℕ → Bool
may_take set c zero = (count c == 0) && not (condition_holds set.names c)
may_take set c k = lives c k

-- ---- accesses

abbrev pub failed : Names → Tree
failed names = name names Builtin.Failed

abbrev pub null : Names → Tree
null names = name names Builtin.Null

abbrev pub in_mode : Setup → Mode → ℕ → Setting
in_mode set mode kernel = record { names = set.names; shown = set.shown; mode = mode; kernel = kernel; limits = set.limits }

pub record Served : Type 0 where
  pub reply : Tree
  pub definitions : Definitions
  pub lines : List Text

-- an evaluation in mode Service: each count is answered, and each print adds a line
abbrev pub served : Setup → ℕ → Play → List Text → Served
served set live (Over end s) lines = record { reply = shown_end set.names set.limits end; definitions = s.definitions; lines = lines }
served set live (Calls (Call.Sends Request.Count) s k) lines = served set live (k (Reply.Replied (integer (pos live))) s.definitions) lines
served set live (Calls (Call.Sends (Request.Print t)) s k) lines = served set live (k (Reply.Replied (null set.names)) s.definitions) (lines ++ t ∷ [])
served set live (Calls c s k) lines = served set live (k Reply.Shut s.definitions) lines

abbrev pub service : Setup → Core → Tree → Served
service set c e = served set (count c) (whole (in_mode set Mode.Service 0) c.definitions e) c.lines

-- ---- what becomes of one item

-- the result of an item that is abandoned
abbrev pub abandoned : Names → Item → Tree
abandoned names (Item.Batch es) = make names Builtin.List (map (λ e. failed names) es)
abandoned names _ = failed names

abbrev pub runs_on : ℕ → Status → Bool
runs_on k (Running j) = j == k
runs_on k _ = false

abbrev pub recovered : Setup → Item → Status
recovered set item = elim set.recovery [ Recover.Retry ↦ Waiting | Recover.Abandon ↦ Done (abandoned set.names item) ]

-- at the loss of kernel k: a pinned item of it, running or waiting, is done; another that it runs is recovered
abbrev pub fate : Setup → ℕ → Item → Status → Status
fate set k (Item.Pinned j e) (Done v) = Done v
fate set k (Item.Pinned j e) Dropped = Dropped
fate set k (Item.Pinned j e) status = elim (j == k) [ true ↦ Done (failed set.names) | false ↦ status ]
fate set k item status = elim (runs_on k status) [ true ↦ recovered set item | false ↦ status ]

abbrev pub delivered : Tree → Status → Status
delivered v Dropped = Dropped
delivered v _ = Done v

abbrev pub dropped : Status → Status
dropped (Done v) = Done v
dropped _ = Dropped

abbrev pub drops : Option Wait → ℕ → Bool
drops (Some (Wait.Try ids)) id = member id ids
drops _ id = false

-- the status of the item `id` after an entry of kernel k
abbrev pub status_after : Setup → Option Wait → ℕ → Event → ℕ → Item → Status → Status
status_after set w k (Event.Take i) id item status = elim (i == id) [ true ↦ Running k | false ↦ status ]
status_after set w k (Event.Deliver i v) id item status = elim (i == id) [ true ↦ delivered v status | false ↦ status ]
status_after set w k (Event.Lose cause) id item status = fate set k item status
status_after set w k Event.Resume id item status = elim (drops w id) [ true ↦ dropped status | false ↦ status ]
status_after set w k _ id item status = status

abbrev pub queued_after : Setup → Option Wait → ℕ → Event → ℕ → Queued → Queued
queued_after set w k event id q = record q { status = status_after set w k event id q.item q.status }

-- the results that an entry gives to the item `id`
abbrev pub loss_results : Status → Status → List Tree
loss_results (Done v) _ = []
loss_results _ (Done v) = v ∷ []
loss_results _ _ = []

abbrev pub delivered_results : Tree → Status → List Tree
delivered_results v Dropped = []
delivered_results v _ = v ∷ []

abbrev pub results_given : Setup → ℕ → Event → ℕ → Queued → List Tree
results_given set k (Event.Deliver i v) id q = elim (i == id) [ true ↦ delivered_results v q.status | false ↦ [] ]
results_given set k (Event.Lose cause) id q = loss_results q.status (fate set k q.item q.status)
results_given set k _ id q = []

abbrev pub has_results : {A : Type 0} → List A → Bool
has_results [] = false
has_results (x ∷ xs) = true

-- the ids that get a result, in order
abbrev pub ids_given : Setup → ℕ → Event → ℕ → List Queued → List ℕ
ids_given set k event id [] = []
ids_given set k event id (q ∷ qs) =
    elim (has_results (results_given set k event id q)) [ true ↦ id ∷ ids_given set k event (suc id) qs | false ↦ ids_given set k event (suc id) qs ]

-- ---- guards

-- kernels post while a wait stands, or while kernel 0 has posted nothing yet
abbrev pub may_post : Core → Bool
may_post c = is_some c.wait || not c.begun

-- inside an attempt, or the master outside a wait
abbrev pub in_evaluation : Core → ℕ → Bool
in_evaluation c k = has_attempt c k || ((k == 0) && no_wait c)

-- a pinned item's kernel lives
abbrev pub may_submit : Core → Handed → Bool
may_submit c (Handed.Given (Item.Pinned j e) b) = lives c j
may_submit c (Handed.Given item b) = true
may_submit c _ = false

abbrev pub is_lent : Handed → Bool
is_lent (Handed.Lent d) = true
is_lent _ = false

abbrev pub may_yield : Core → Wait → Bool
may_yield c (Wait.All ids) = name_items c ids
may_yield c (Wait.Next ids) = not (is_empty ids) && name_items c ids
may_yield c (Wait.Try ids) = name_items c ids
may_yield c (Wait.Locks ls) = true

-- k runs the item: its attempt is the item, which runs on it or was dropped meanwhile
abbrev pub runs_or_dropped : ℕ → Option Status → Bool
runs_or_dropped k (Some (Running j)) = j == k
runs_or_dropped k (Some Dropped) = true
runs_or_dropped k _ = false

abbrev pub runs : Core → ℕ → ℕ → Bool
runs c k id = is_id id (attempt_of c k) && runs_or_dropped k (status_of c id)

abbrev pub permitted : Setup → Core → Handed → ℕ → Event → Bool
permitted set c h k (Event.Submit id) = (k == 0) && no_wait c && (id == suc (length c.items)) && may_submit c h
permitted set c h k (Event.Yield w) = (k == 0) && no_wait c && may_yield c w && is_lent h
permitted set c h k Event.Resume = (k == 0) && condition_holds set.names c && not (has_attempt c 0)
permitted set c h k (Event.Take id) = is_some c.wait && not (has_attempt c k) && may_take set c k && is_id id (first_for 1 c.items k)
permitted set c h k (Event.Access e r) = has_attempt c k && same r (service set c e).reply
permitted set c h k (Event.Ask n) = in_evaluation c k && (n == count c)
permitted set c h k (Event.Print t) = in_evaluation c k
permitted set c h k (Event.Enter ls) = in_evaluation c k && not (is_empty ls) && holds_nothing c k && all_free c ls
permitted set c h k Event.Leave = in_evaluation c k && not (holds_nothing c k)
permitted set c h k (Event.Deliver id v) = runs c k id && holds_nothing c k
permitted set c h k (Event.Lose cause) = not (k == 0) && lives c k
permitted set c h k Event.Close = (k == 0) && no_wait c

abbrev pub allowed : Setup → Core → Posted → Bool
allowed set c p =
    not c.closed && ((p.entry.kernel == 0) || may_post c) && permitted set c p.handed p.entry.kernel p.entry.event

-- ---- effects

abbrev pub with_item : Handed → List Queued → List Queued
with_item (Handed.Given item b) qs = qs ++ record { item = item; bundle = b; status = Waiting } ∷ []
with_item _ qs = qs

abbrev pub items_after : Setup → Core → Handed → ℕ → Event → List Queued
items_after set c h k (Event.Submit id) = with_item h c.items
items_after set c h k event = each_from 1 (queued_after set c.wait k event) c.items

abbrev pub kernel_after : Event → Kernel → Kernel
kernel_after (Event.Take id) x = record x { attempt = Some id }
kernel_after (Event.Enter ls) x = record x { locks = ls }
kernel_after Event.Leave x = record x { locks = [] }
kernel_after (Event.Deliver id v) x = record x { attempt = None }
kernel_after (Event.Lose cause) x = new_kernel false
kernel_after _ x = x

abbrev pub wait_after : Option Wait → Event → Option Wait
wait_after w (Event.Yield v) = Some v
wait_after w Event.Resume = None
wait_after w _ = w

abbrev pub definitions_after : Setup → Core → Handed → Event → Definitions
definitions_after set c (Handed.Lent d) (Event.Yield w) = d
definitions_after set c h (Event.Access e r) = (service set c e).definitions
definitions_after set c h _ = c.definitions

abbrev pub lines_after : Setup → Core → Event → List Text
lines_after set c (Event.Access e r) = (service set c e).lines
lines_after set c (Event.Print t) = c.lines ++ t ∷ []
lines_after set c _ = c.lines

abbrev pub is_close : Event → Bool
is_close Event.Close = true
is_close _ = false

abbrev pub effect : Setup → Core → Posted → Core
effect set c p =
    let k = p.entry.kernel in
    let event = p.entry.event in
    record {
      definitions = definitions_after set c p.handed event;
      items = items_after set c p.handed k event;
      kernels = change_at k (kernel_after event) c.kernels;
      wait = wait_after c.wait event;
      finished = c.finished ++ ids_given set k event 1 c.items;
      lines = lines_after set c event;
      begun = c.begun || (k == 0);
      closed = is_close event;
    }

-- what an entry does, if it may be posted
abbrev pub step : Setup → Core → Posted → Option Core
step set c p = elim (allowed set c p) [ true ↦ Some (effect set c p) | false ↦ None ]

abbrev pub replay_from : Setup → Core → List Posted → Option Core
replay_from set c [] = Some c
replay_from set c (p ∷ ps) = elim (allowed set c p) [ true ↦ replay_from set (effect set c p) ps | false ↦ None ]

abbrev pub replay : Setup → List Posted → Option Core
replay set ps = replay_from set (start set) ps

-- ---- replies of waits

abbrev pub results_of : Core → List ℕ → List Tree
results_of c [] = []
results_of c (id ∷ ids) = elim (result_of c id) [ None ↦ results_of c ids | Some v ↦ v ∷ results_of c ids ]

-- the first finished id among these
abbrev pub first_finished : List ℕ → Core → List ℕ → List Tree
first_finished [] c ids = []
first_finished (id ∷ rest) c ids =
    elim (member id ids) [
      | true ↦ elim (result_of c id) [ None ↦ [] | Some v ↦ v ∷ integer (pos id) ∷ [] ]
      | false ↦ first_finished rest c ids
    ]

-- the first success among these, else $Failed
abbrev pub first_success : Names → List ℕ → Core → List ℕ → List Tree
first_success names [] c ids = failed names ∷ []
first_success names (id ∷ rest) c ids =
    elim (member id ids && is_success names (result_of c id)) [
      | true ↦ elim (result_of c id) [ None ↦ [] | Some v ↦ v ∷ [] ]
      | false ↦ first_success names rest c ids
    ]

abbrev pub reply_to : Names → Core → Wait → List Tree
reply_to names c (Wait.All ids) = results_of c ids
reply_to names c (Wait.Next ids) = first_finished c.finished c ids
reply_to names c (Wait.Try ids) = first_success names c.finished c ids
reply_to names c (Wait.Locks ls) = []

-- the reply of the standing wait
abbrev pub wait_reply : Names → Core → List Tree
wait_reply names c = elim c.wait [ None ↦ [] | Some w ↦ reply_to names c w ]
