-- What a journal shows of one kernel, and of the core beside it.
--     needed                        an entry without what is handed in beside it to no effect
--     HandedNeeded                  that changes neither the core nor a kernel's view
--     ItemsAgree                    the items of the core are those that each kernel has seen
--     own_entries, none_by          the entries of one kernel; whether there is none
--     OthersPass                    entries of others change nothing of a kernel but the items that it has seen
--     OwnCounted, LivesUnlessLost   a kernel's count is that of its entries; it lives unless its view is lost
--     StretchByStretch              a journal that grows by entries: the core and a kernel's view go on from where they were
--     DoersAgree                    an item that runs is run by its kernel; a kernel that does not live has no attempt
--     PinsLive                      a pinned item that waits or runs has a living kernel
--     StandInFinds                  where the stand-in may take an item, one waits for it
--     WaitLocksAgree                in a wait kernel 0 holds locks where the stand-in's attempt is inside a section
use Rattle.std.specs.Prelude.{◌≡◌, ℕ, suc, ◌≤◌, List, [], ◌∷◌, ◌++◌, map, length, Bool, true, false, ◌&&◌, not, ◌==◌, Some, None}
use Rattle.journal.specs.Places.{is_some}
use Rattle.journal.specs.Closure.{Bundle}
use Rattle.journal.specs.declared.event.Wait.{Wait}
use Rattle.journal.specs.declared.event.Event.{Event}
use Rattle.journal.specs.declared.item.Item.{Item}
use Rattle.journal.specs.Entry.{Handed, Posted}
use Rattle.journal.specs.declared.item.Status.{Status}
use Rattle.journal.specs.Core.{Setup, Core, Queued, count, condition_holds, first_for, item_at, status_of, attempt_of, lives, holds_nothing, allowed, effect, replay, replay_from}
use Rattle.journal.specs.Follow.{Plan, View, is_lost, with_handed, watch, watch_from, kernel_run}
use Rattle.journal.specs.Run.{is_resume}
use Rattle.laws_journal.specs.Laws.{StandsIn}

-- at Submit an item, at Yield definitions
abbrev pub handed_for : Event → Handed → Handed
handed_for (Event.Submit id) (Handed.Given item b) = Handed.Given item b
handed_for (Event.Yield w) (Handed.Lent d) = Handed.Lent d
handed_for _ _ = Handed.Nothing

abbrev pub needed : Posted → Posted
needed p = record p { handed = handed_for p.entry.event p.handed }

-- the versions that a kernel holds, and whatever else is handed in, change nothing
abbrev pub HandedNeeded : Type 0
HandedNeeded =
    ((set : Setup) (c : Core) (p : Posted) → (allowed set c (needed p) ≡ allowed set c p) × (effect set c (needed p) ≡ effect set c p))
    × ((set : Setup) (plan : Plan) (k : ℕ) (v : View) (p : Posted) → watch set plan k v (needed p) ≡ watch set plan k v p)
    × ((set : Setup) (ps : List Posted) → replay set (map needed ps) ≡ replay set ps)
    × ((set : Setup) (plan : Plan) (k : ℕ) (ps : List Posted) → kernel_run set plan k (map needed ps) ≡ kernel_run set plan k ps)

abbrev pub pair_of : Queued → Item × Bundle
pair_of q = (q.item, q.bundle)

abbrev pub ItemsAgree : Type 0
ItemsAgree =
    (set : Setup) (plan : Plan) (k : ℕ) (ps : List Posted) (c : Core) (v : View) → replay set ps ≡ Some c → kernel_run set plan k ps ≡ Some v → map pair_of c.items ≡ v.items

-- ---- entries of one kernel

abbrev pub own_entries : ℕ → List Posted → List Posted
own_entries k [] = []
own_entries k (p ∷ ps) = elim (p.entry.kernel == k) [ true ↦ p ∷ own_entries k ps | false ↦ own_entries k ps ]

abbrev pub none_by : ℕ → List Posted → Bool
none_by k [] = true
none_by k (p ∷ ps) = not (p.entry.kernel == k) && none_by k ps

-- the items seen after these entries
abbrev pub items_seen : List Posted → List (Item × Bundle) → List (Item × Bundle)
items_seen [] items = items
items_seen (p ∷ ps) items = items_seen ps (with_handed p.entry.event p.handed items)

abbrev pub OthersPass : Type 0
OthersPass =
    (set : Setup) (plan : Plan) (k : ℕ) (ps others : List Posted) (v : View) → kernel_run set plan k ps ≡ Some v → none_by k others ≡ true
    → kernel_run set plan k (ps ++ others) ≡ Some (record v { items = items_seen others v.items })

-- what a kernel saw of items stands in front of what it sees later
abbrev pub ItemsStay : Type 0
ItemsStay = (ps : List Posted) (items : List (Item × Bundle)) → (more : List (Item × Bundle)) × (items_seen ps items ≡ items ++ more)

abbrev pub OwnCounted : Type 0
OwnCounted = (set : Setup) (plan : Plan) (k : ℕ) (ps : List Posted) (v : View) → kernel_run set plan k ps ≡ Some v → v.own ≡ length (own_entries k ps)

abbrev pub LivesUnlessLost : Type 0
LivesUnlessLost =
    (set : Setup) (plan : Plan) (k : ℕ) (ps : List Posted) (c : Core) (v : View) → suc k ≤ set.kernels → replay set ps ≡ Some c → kernel_run set plan (suc k) ps ≡ Some v
    → lives c (suc k) ≡ not (is_lost v.phase)

-- ---- stretches

abbrev pub StretchByStretch : Type 0
StretchByStretch =
    ((set : Setup) (ps more : List Posted) (c : Core) → replay set ps ≡ Some c → replay set (ps ++ more) ≡ replay_from set c more)
    × ((set : Setup) (plan : Plan) (k : ℕ) (ps more : List Posted) (v : View) → kernel_run set plan k ps ≡ Some v → kernel_run set plan k (ps ++ more) ≡ watch_from set plan k v more)

-- none of these ends the wait
abbrev pub none_resumes : List Posted → Bool
none_resumes [] = true
none_resumes (p ∷ ps) = not (is_resume p.entry.event) && none_resumes ps

-- from a point of a wait where that is so, as after a Yield of a master that holds nothing, up to every other point of the wait
abbrev pub WaitLocksAgree : Type 0
WaitLocksAgree =
    (set : Setup) (plan : Plan) (ps more : List Posted) (c z : Core) (v w : View) → replay set ps ≡ Some c → kernel_run set plan 0 ps ≡ Some v → is_some c.wait ≡ true
    → StandsIn v.phase (not (holds_nothing c 0)) → none_resumes more ≡ true → replay_from set c more ≡ Some z → watch_from set plan 0 v more ≡ Some w
    → (is_some z.wait ≡ true) × StandsIn w.phase (not (holds_nothing z 0))

-- ---- who runs what

abbrev pub DoersAgree : Type 0
DoersAgree =
    (set : Setup) (ps : List Posted) (c : Core) → replay set ps ≡ Some c
    → ((id k : ℕ) → status_of c id ≡ Some (Status.Running k) → attempt_of c k ≡ Some id) × ((k : ℕ) → lives c (suc k) ≡ false → attempt_of c (suc k) ≡ None)

-- an item that is pinned to a kernel and has no result yet
abbrev pub is_open_pin : Item → Status → ℕ → Bool
is_open_pin (Item.Pinned i e) (Status.Waiting) j = i == j
is_open_pin (Item.Pinned i e) (Status.Running k) j = i == j
is_open_pin _ _ j = false

abbrev pub PinsLive : Type 0
PinsLive =
    (set : Setup) (ps : List Posted) (c : Core) → replay set ps ≡ Some c → (id : ℕ) (q : Queued) (j : ℕ) → item_at c id ≡ Some q → is_open_pin q.item q.status j ≡ true → lives c j ≡ true

abbrev pub is_for_items : Wait → Bool
is_for_items (Wait.Locks ls) = false
is_for_items _ = true

-- no kernel lives, the stand-in has no attempt, and the condition of a wait for items is false
abbrev pub StandInFinds : Type 0
StandInFinds =
    (set : Setup) (ps : List Posted) (c : Core) (w : Wait) → replay set ps ≡ Some c → c.wait ≡ Some w → is_for_items w ≡ true → condition_holds set.names c ≡ false → count c ≡ 0 → attempt_of c 0 ≡ None
    → is_some (first_for 1 c.items 0) ≡ true
