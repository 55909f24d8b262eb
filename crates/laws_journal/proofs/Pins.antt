-- A pinned item that waits or runs has a living kernel.
use Rattle.std.proofs.Common.{◌≡◌, refl, sym, ap, subst, ◌∙◌, ℕ, zero, suc, ◌+◌, Bool, true, false, List, [], ◌∷◌, ◌++◌, Option, Some, None, true≢false, eqb-true}
use Rattle.std.specs.Prelude.{◌&&◌, not, ◌==◌}
use Rattle.expr_tree.specs.Tree.{Tree}
use Rattle.journal.specs.Closure.{Bundle}
use Rattle.journal.specs.Places.{nth, change_at, each_from}
use Rattle.journal.specs.declared.event.Event.{Event}
use Rattle.journal.specs.declared.item.Item.{Item}
use Rattle.journal.specs.Entry.{Posted, Handed}
use Rattle.journal.specs.declared.item.Status.{Status}
use Rattle.journal.specs.declared.item.Status.TheVariants.{Waiting, Running, Done, Dropped}
use Rattle.journal.specs.Core.{Setup, Core, Kernel, Queued, start, item_at, lives, failed, fate, delivered, dropped, drops, status_after, queued_after, is_waiting, may_submit, permitted, allowed, items_after, kernel_after, effect, replay_from}
use Rattle.laws_journal.specs.Views.{is_open_pin, PinsLive}
use Rattle.laws_journal.proofs.Tables.{both, none≢some, some_is, split, apart, each_nth, change_other, change_same}
use Rattle.laws_journal.proofs.Attempts.{submitted, changed, taken_may}

abbrev open_in : ℕ → Option Queued → Bool
open_in j o = elim o [ None ↦ false | Some q ↦ is_open_pin q.item q.status j ]

abbrev lives_in : Option Kernel → Bool
lives_in o = elim o [ None ↦ false | Some x ↦ x.lives ]

-- ---- one item

closed_done : (item : Item) (v : Tree) (j : ℕ) → is_open_pin item (Done v) j ≡ true → ⊥
closed_done (Item.Plain e) v j h = true≢false (sym h)
closed_done (Item.Batch es) v j h = true≢false (sym h)
closed_done (Item.Pinned i e) v j h = true≢false (sym h)

closed_dropped : (item : Item) (j : ℕ) → is_open_pin item Dropped j ≡ true → ⊥
closed_dropped (Item.Plain e) j h = true≢false (sym h)
closed_dropped (Item.Batch es) j h = true≢false (sym h)
closed_dropped (Item.Pinned i e) j h = true≢false (sym h)

open_waiting : (item : Item) (a : Status) (k j : ℕ) → is_waiting a ≡ true → is_open_pin item (Running k) j ≡ true → is_open_pin item a j ≡ true
open_waiting (Item.Pinned i e) Waiting k j w h = h
open_waiting (Item.Plain e) a k j w h = absurd (true≢false (sym h))
open_waiting (Item.Batch es) a k j w h = absurd (true≢false (sym h))
open_waiting (Item.Pinned i e) (Running n) k j w h = absurd (true≢false (sym w))
open_waiting (Item.Pinned i e) (Done v) k j w h = absurd (true≢false (sym w))
open_waiting (Item.Pinned i e) Dropped k j w h = absurd (true≢false (sym w))

open_delivered : (item : Item) (v : Tree) (a : Status) (j : ℕ) → is_open_pin item (delivered v a) j ≡ true → ⊥
open_delivered item v Waiting j h = closed_done item v j h
open_delivered item v (Running k) j h = closed_done item v j h
open_delivered item v (Done w) j h = closed_done item v j h
open_delivered item v Dropped j h = closed_dropped item j h

open_dropped : (item : Item) (a : Status) (j : ℕ) → is_open_pin item (dropped a) j ≡ true → ⊥
open_dropped item Waiting j h = closed_dropped item j h
open_dropped item (Running k) j h = closed_dropped item j h
open_dropped item (Done w) j h = closed_done item w j h
open_dropped item Dropped j h = closed_dropped item j h

-- what is open after the loss of k is pinned to another
open_lost : (set : Setup) (k : ℕ) (item : Item) (a : Status) (j : ℕ) → is_open_pin item (fate set k item a) j ≡ true → (is_open_pin item a j ≡ true) × (k ≡ j → ⊥)
open_lost set k (Item.Plain e) a j h = absurd (never (fate set k (Item.Plain e) a) h)
  where
    never : (s : Status) → is_open_pin (Item.Plain e) s j ≡ true → ⊥
    never s h' = true≢false (sym h')
open_lost set k (Item.Batch es) a j h = absurd (never (fate set k (Item.Batch es) a) h)
  where
    never : (s : Status) → is_open_pin (Item.Batch es) s j ≡ true → ⊥
    never s h' = true≢false (sym h')
open_lost set k (Item.Pinned i e) (Done v) j h = absurd (true≢false (sym h))
open_lost set k (Item.Pinned i e) Dropped j h = absurd (true≢false (sym h))
open_lost set k (Item.Pinned i e) Waiting j h = go (i == k) refl h
  where
    go : (b : Bool) → (i == k) ≡ b → is_open_pin (Item.Pinned i e) (elim b [ true ↦ Done (failed set.names) | false ↦ Waiting ]) j ≡ true → ((i == j) ≡ true) × (k ≡ j → ⊥)
    go true b h' = absurd (true≢false (sym h'))
    go false b h' = (h', λ same. apart i k b (eqb-true i j h' ∙ sym same))
open_lost set k (Item.Pinned i e) (Running n) j h = go (i == k) refl h
  where
    go : (b : Bool) → (i == k) ≡ b → is_open_pin (Item.Pinned i e) (elim b [ true ↦ Done (failed set.names) | false ↦ Running n ]) j ≡ true → ((i == j) ≡ true) × (k ≡ j → ⊥)
    go true b h' = absurd (true≢false (sym h'))
    go false b h' = (h', λ same. apart i k b (eqb-true i j h' ∙ sym same))

-- ---- one entry

abbrev is_loss : Event → Bool
is_loss (Event.Lose cause) = true
is_loss _ = false

abbrev Before : ℕ → ℕ → Event → Queued → Type 0
Before k j e q = (is_open_pin q.item q.status j ≡ true) × (is_loss e ≡ true → k ≡ j → ⊥)

open_before : (set : Setup) (c : Core) (h : Handed) (k j : ℕ) (e : Event) (m : ℕ) (q : Queued) → permitted set c h k e ≡ true → nth c.items m ≡ Some q
    → is_open_pin q.item (status_after set c.wait k e (suc m) q.item q.status) j ≡ true → Before k j e q
open_before set c h k j (Event.Take i) m q ok at s = go (i == suc m) refl s
  where
    go : (b : Bool) → (i == suc m) ≡ b → is_open_pin q.item (elim b [ true ↦ Running k | false ↦ q.status ]) j ≡ true → Before k j (Event.Take i) q
    go true b s' = (open_waiting q.item q.status k j (taken_may set c h k i m q ok at (eqb-true i (suc m) b)).0 s', λ l. absurd (true≢false (sym l)))
    go false b s' = (s', λ l. absurd (true≢false (sym l)))
open_before set c h k j (Event.Deliver i v) m q ok at s = go (i == suc m) s
  where
    go : (b : Bool) → is_open_pin q.item (elim b [ true ↦ delivered v q.status | false ↦ q.status ]) j ≡ true → Before k j (Event.Deliver i v) q
    go true s' = absurd (open_delivered q.item v q.status j s')
    go false s' = (s', λ l. absurd (true≢false (sym l)))
open_before set c h k j (Event.Lose cause) m q ok at s = let t = open_lost set k q.item q.status j s in (t.0, λ _. t.1)
open_before set c h k j Event.Resume m q ok at s = go (drops c.wait (suc m)) s
  where
    go : (b : Bool) → is_open_pin q.item (elim b [ true ↦ dropped q.status | false ↦ q.status ]) j ≡ true → Before k j Event.Resume q
    go true s' = absurd (open_dropped q.item q.status j s')
    go false s' = (s', λ l. absurd (true≢false (sym l)))
open_before set c h k j (Event.Submit i) m q ok at s = (s, λ l. absurd (true≢false (sym l)))
open_before set c h k j (Event.Yield w) m q ok at s = (s, λ l. absurd (true≢false (sym l)))
open_before set c h k j (Event.Access f r) m q ok at s = (s, λ l. absurd (true≢false (sym l)))
open_before set c h k j (Event.Ask n) m q ok at s = (s, λ l. absurd (true≢false (sym l)))
open_before set c h k j (Event.Print x) m q ok at s = (s, λ l. absurd (true≢false (sym l)))
open_before set c h k j (Event.Enter ls) m q ok at s = (s, λ l. absurd (true≢false (sym l)))
open_before set c h k j Event.Leave m q ok at s = (s, λ l. absurd (true≢false (sym l)))
open_before set c h k j Event.Close m q ok at s = (s, λ l. absurd (true≢false (sym l)))

lives_still : (e : Event) (x : Kernel) → is_loss e ≡ false → (kernel_after e x).lives ≡ x.lives
lives_still (Event.Lose cause) x h = absurd (true≢false h)
lives_still (Event.Submit i) x h = refl
lives_still (Event.Yield w) x h = refl
lives_still Event.Resume x h = refl
lives_still (Event.Take i) x h = refl
lives_still (Event.Access f r) x h = refl
lives_still (Event.Ask n) x h = refl
lives_still (Event.Print t) x h = refl
lives_still (Event.Enter ls) x h = refl
lives_still Event.Leave x h = refl
lives_still (Event.Deliver i v) x h = refl
lives_still Event.Close x h = refl

-- who is not lost by this entry lives as before
lives_on : (c : Core) (k j : ℕ) (e : Event) → (is_loss e ≡ true → k ≡ j → ⊥) → lives c j ≡ true → lives_in (nth (change_at k (kernel_after e) c.kernels) j) ≡ true
lives_on c k j e ne l = go (k == j) refl (nth c.kernels j) refl
  where
    quiet : (b : Bool) → is_loss e ≡ b → k ≡ j → is_loss e ≡ false
    quiet true a same = absurd (ne a same)
    quiet false a same = a

    go : (b : Bool) → (k == j) ≡ b → (o : Option Kernel) → nth c.kernels j ≡ o → lives_in (nth (change_at k (kernel_after e) c.kernels) j) ≡ true
    go false b o at = ap lives_in (change_other k j (kernel_after e) c.kernels (apart k j b)) ∙ l
    go true b None at = absurd (true≢false (sym l ∙ ap lives_in at))
    go true b (Some x) at =
        ap lives_in (subst (λ n. nth (change_at n (kernel_after e) c.kernels) j ≡ Some (kernel_after e x)) (sym (eqb-true k j b)) (change_same j (kernel_after e) c.kernels x at))
        ∙ (lives_still e x (quiet (is_loss e) refl (eqb-true k j b)) ∙ (sym (ap lives_in at) ∙ l))

-- an item that is new is pinned to a kernel that lives
new_pin : (m : ℕ) (qs : List Queued) (x : Queued) (j : ℕ) → nth qs m ≡ None → open_in j (nth (qs ++ x ∷ []) m) ≡ true → is_open_pin x.item x.status j ≡ true
new_pin zero [] x j none h = h
new_pin (suc m) [] x j none h = absurd (true≢false (sym h))
new_pin zero (q ∷ qs) x j none h = absurd (none≢some (sym none))
new_pin (suc m) (q ∷ qs) x j none h = new_pin m qs x j none h

given_pin : (c : Core) (item : Item) (b : Bundle) (j : ℕ) → may_submit c (Handed.Given item b) ≡ true → is_open_pin item Waiting j ≡ true → lives c j ≡ true
given_pin c (Item.Plain e) b j ok h = absurd (true≢false (sym h))
given_pin c (Item.Batch es) b j ok h = absurd (true≢false (sym h))
given_pin c (Item.Pinned i e) b j ok h = subst (λ n. lives c n ≡ true) (eqb-true i j h) ok

not_there : (set : Setup) (c : Core) (k j : ℕ) (e : Event) (m : ℕ) → nth c.items m ≡ None → open_in j (nth (each_from 1 (queued_after set c.wait k e) c.items) m) ≡ true → ⊥
not_there set c k j e m none s =
    true≢false (sym s ∙ ap (open_in j) (each_nth 1 m (queued_after set c.wait k e) c.items ∙ ap (λ o. elim o [ None ↦ None | Some x ↦ Some (queued_after set c.wait k e (1 + m) x) ]) none))

new_lives : (set : Setup) (c : Core) (h : Handed) (k j : ℕ) (e : Event) (m : ℕ) → permitted set c h k e ≡ true → nth c.items m ≡ None → open_in j (nth (items_after set c h k e) m) ≡ true
    → (lives c j ≡ true) × (is_loss e ≡ false)
new_lives set c (Handed.Given item b) k j (Event.Submit i) m ok none s = (given_pin c item b j (both _ _ ok).1 (new_pin m c.items _ j none s), refl)
new_lives set c Handed.Nothing k j (Event.Submit i) m ok none s = absurd (true≢false (sym s ∙ ap (open_in j) none))
new_lives set c (Handed.Lent d) k j (Event.Submit i) m ok none s = absurd (true≢false (sym s ∙ ap (open_in j) none))
new_lives set c (Handed.Held vs) k j (Event.Submit i) m ok none s = absurd (true≢false (sym s ∙ ap (open_in j) none))
new_lives set c h k j (Event.Yield w) m ok none s = absurd (not_there set c k j (Event.Yield w) m none s)
new_lives set c h k j Event.Resume m ok none s = absurd (not_there set c k j Event.Resume m none s)
new_lives set c h k j (Event.Take i) m ok none s = absurd (not_there set c k j (Event.Take i) m none s)
new_lives set c h k j (Event.Access f r) m ok none s = absurd (not_there set c k j (Event.Access f r) m none s)
new_lives set c h k j (Event.Ask n) m ok none s = absurd (not_there set c k j (Event.Ask n) m none s)
new_lives set c h k j (Event.Print x) m ok none s = absurd (not_there set c k j (Event.Print x) m none s)
new_lives set c h k j (Event.Enter ls) m ok none s = absurd (not_there set c k j (Event.Enter ls) m none s)
new_lives set c h k j Event.Leave m ok none s = absurd (not_there set c k j Event.Leave m none s)
new_lives set c h k j (Event.Deliver i v) m ok none s = absurd (not_there set c k j (Event.Deliver i v) m none s)
new_lives set c h k j (Event.Lose cause) m ok none s = absurd (not_there set c k j (Event.Lose cause) m none s)
new_lives set c h k j Event.Close m ok none s = absurd (not_there set c k j Event.Close m none s)

-- ---- a journal

abbrev Pinned : Core → Type 0
Pinned c = (m j : ℕ) → open_in j (nth c.items m) ≡ true → lives c j ≡ true

opened_after : (set : Setup) (c : Core) (h : Handed) (k j : ℕ) (e : Event) (m : ℕ) (q : Queued) → nth c.items m ≡ Some q → open_in j (nth (items_after set c h k e) m) ≡ true
    → is_open_pin q.item (status_after set c.wait k e (suc m) q.item q.status) j ≡ true
opened_after set c h k j (Event.Submit i) m q at s = sym (ap (open_in j) (submitted h c.items m q at)) ∙ s
opened_after set c h k j (Event.Yield w) m q at s = sym (ap (open_in j) (changed set c k (Event.Yield w) m q at)) ∙ s
opened_after set c h k j Event.Resume m q at s = sym (ap (open_in j) (changed set c k Event.Resume m q at)) ∙ s
opened_after set c h k j (Event.Take i) m q at s = sym (ap (open_in j) (changed set c k (Event.Take i) m q at)) ∙ s
opened_after set c h k j (Event.Access f r) m q at s = sym (ap (open_in j) (changed set c k (Event.Access f r) m q at)) ∙ s
opened_after set c h k j (Event.Ask n) m q at s = sym (ap (open_in j) (changed set c k (Event.Ask n) m q at)) ∙ s
opened_after set c h k j (Event.Print x) m q at s = sym (ap (open_in j) (changed set c k (Event.Print x) m q at)) ∙ s
opened_after set c h k j (Event.Enter ls) m q at s = sym (ap (open_in j) (changed set c k (Event.Enter ls) m q at)) ∙ s
opened_after set c h k j Event.Leave m q at s = sym (ap (open_in j) (changed set c k Event.Leave m q at)) ∙ s
opened_after set c h k j (Event.Deliver i v) m q at s = sym (ap (open_in j) (changed set c k (Event.Deliver i v) m q at)) ∙ s
opened_after set c h k j (Event.Lose cause) m q at s = sym (ap (open_in j) (changed set c k (Event.Lose cause) m q at)) ∙ s
opened_after set c h k j Event.Close m q at s = sym (ap (open_in j) (changed set c k Event.Close m q at)) ∙ s

pinned_after : (set : Setup) (c : Core) (p : Posted) → Pinned c → allowed set c p ≡ true → Pinned (effect set c p)
pinned_after set c p pinned ok m j s = go (nth c.items m) refl
  where
    permits : permitted set c p.handed p.entry.kernel p.entry.event ≡ true
    permits = (both (not c.closed && _) (permitted set c p.handed p.entry.kernel p.entry.event) ok).1

    go : (o : Option Queued) → nth c.items m ≡ o → lives_in (nth (change_at p.entry.kernel (kernel_after p.entry.event) c.kernels) j) ≡ true
    go None at =
        let t = new_lives set c p.handed p.entry.kernel j p.entry.event m permits at s in
        lives_on c p.entry.kernel j p.entry.event (λ l. absurd (true≢false (sym l ∙ t.1))) t.0
    go (Some q) at =
        let t = open_before set c p.handed p.entry.kernel j p.entry.event m q permits at (opened_after set c p.handed p.entry.kernel j p.entry.event m q at s) in
        lives_on c p.entry.kernel j p.entry.event t.1 (pinned m j (ap (open_in j) at ∙ t.0))

pinned_from : (set : Setup) (c z : Core) (ps : List Posted) → Pinned c → replay_from set c ps ≡ Some z → Pinned z
pinned_from set c z [] pinned r = subst Pinned (some_is r) pinned
pinned_from set c z (p ∷ ps) pinned r =
    let parts = split (allowed set c p) (replay_from set (effect set c p) ps) z r in
    pinned_from set (effect set c p) z ps (pinned_after set c p pinned parts.0) parts.1

pub pins_live : PinsLive
pins_live set ps c r id q j at s = by_id id at
  where
    all : Pinned c
    all = pinned_from set (start set) c ps (λ m k h. absurd (true≢false (sym h))) r

    by_id : (i : ℕ) → item_at c i ≡ Some q → lives c j ≡ true
    by_id zero e = absurd (none≢some e)
    by_id (suc m) e = all m j (ap (open_in j) e ∙ s)
