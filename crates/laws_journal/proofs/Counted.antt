-- An item has as many results as it is done: none or one.
use Rattle.std.proofs.Common.{◌≡◌, refl, sym, ap, subst, ◌∙◌, ℕ, zero, suc, ◌≤◌, ◌+◌, Bool, true, false, List, [], ◌∷◌, ◌++◌, length, length-append, Option, Some, None, true≢false, eqb-true, arith}
use Rattle.std.specs.Prelude.{◌&&◌, ◌==◌}
use Rattle.expr_tree.specs.Tree.{Tree}
use Rattle.journal.specs.Places.{nth, each_from, member, is_some}
use Rattle.journal.specs.declared.event.Wait.{Wait}
use Rattle.journal.specs.declared.event.Event.{Event}
use Rattle.journal.specs.declared.item.Item.{Item}
use Rattle.journal.specs.Entry.{Posted, Handed}
use Rattle.journal.specs.declared.item.Status.{Status}
use Rattle.journal.specs.declared.item.Status.TheVariants.{Waiting, Running, Done, Dropped}
use Rattle.journal.specs.Core.{Setup, Core, Queued, start, item_at, status_of, value_in, all_done, holds, fate, loss_results, delivered, delivered_results, dropped, drops, status_after, queued_after, results_given, is_waiting, may_go, first_for, is_id, runs_or_dropped, permitted, allowed, with_item, items_after, effect, replay_from}
use Rattle.journal.specs.Spans.{entry_results, results}
use Rattle.laws_journal.proofs.Tables.{both, some_is, split, each_nth}

-- 1 where the item is done
abbrev done : Status → ℕ
done (Done v) = 1
done _ = 0

abbrev done_in : Option Queued → ℕ
done_in None = 0
done_in (Some q) = done q.status

abbrev item_in : List Queued → ℕ → Option Queued
item_in qs zero = None
item_in qs (suc m) = nth qs m

abbrev given_in : Setup → ℕ → Event → ℕ → Option Queued → List Tree
given_in set k e id o = elim o [ None ↦ [] | Some q ↦ results_given set k e id q ]

-- ---- one item

-- what a loss gives is what makes it done
loss_counts : (a b : Status) → ((v : Tree) → a ≡ Done v → b ≡ Done v) → length (loss_results a b) + done a ≡ done b
loss_counts (Done v) b h = ap done (sym (h v refl))
loss_counts Waiting (Done w) h = refl
loss_counts Waiting Waiting h = refl
loss_counts Waiting (Running j) h = refl
loss_counts Waiting Dropped h = refl
loss_counts (Running i) (Done w) h = refl
loss_counts (Running i) Waiting h = refl
loss_counts (Running i) (Running j) h = refl
loss_counts (Running i) Dropped h = refl
loss_counts Dropped (Done w) h = refl
loss_counts Dropped Waiting h = refl
loss_counts Dropped (Running j) h = refl
loss_counts Dropped Dropped h = refl

-- what is done stays done at a loss
fate_done : (set : Setup) (k : ℕ) (item : Item) (a : Status) (v : Tree) → a ≡ Done v → fate set k item a ≡ Done v
fate_done set k item a v e = subst (λ s. fate set k item s ≡ Done v) (sym e) (go item)
  where
    go : (i : Item) → fate set k i (Done v) ≡ Done v
    go (Item.Plain f) = refl
    go (Item.Batch fs) = refl
    go (Item.Pinned j f) = refl

drop_counts : (b : Bool) (a : Status) → done a ≡ done (elim b [ true ↦ dropped a | false ↦ a ])
drop_counts true (Done v) = refl
drop_counts true Waiting = refl
drop_counts true (Running j) = refl
drop_counts true Dropped = refl
drop_counts false a = refl

-- a delivered item ran or was dropped
deliver_counts : (k : ℕ) (v : Tree) (a : Status) → runs_or_dropped k (Some a) ≡ true → length (delivered_results v a) + done a ≡ done (delivered v a)
deliver_counts k v Waiting h = absurd (true≢false (sym h))
deliver_counts k v (Running j) h = refl
deliver_counts k v (Done w) h = absurd (true≢false (sym h))
deliver_counts k v Dropped h = refl

waiting_counts : (k : ℕ) (a : Status) → is_waiting a ≡ true → done a ≡ done (Running k)
waiting_counts k Waiting h = refl
waiting_counts k (Running j) h = absurd (true≢false (sym h))
waiting_counts k (Done v) h = absurd (true≢false (sym h))
waiting_counts k Dropped h = absurd (true≢false (sym h))

-- ---- taking

abbrev waits_in : Option Queued → Bool
waits_in None = false
waits_in (Some q) = is_waiting q.status

-- the first id that a kernel may take is of an item that waits
first_waits : (n k id : ℕ) (qs : List Queued) → is_id id (first_for n qs k) ≡ true → (m : ℕ) × (id ≡ n + m) × (waits_in (nth qs m) ≡ true)
first_waits n k id [] h = absurd (true≢false (sym h))
first_waits n k id (q ∷ qs) h = go (is_waiting q.status && may_go q.item k) refl h (first_waits (suc n) k id qs)
  where
    go : (b : Bool) → (is_waiting q.status && may_go q.item k) ≡ b → is_id id (elim b [ true ↦ Some n | false ↦ first_for (suc n) qs k ]) ≡ true
        → (is_id id (first_for (suc n) qs k) ≡ true → (m : ℕ) × (id ≡ suc n + m) × (waits_in (nth qs m) ≡ true))
        → (m : ℕ) × (id ≡ n + m) × (waits_in (nth (q ∷ qs) m) ≡ true)
    go true w h' next = let e = eqb-true id n h' in (0, omega arith, (both _ _ w).0)
    go false w h' next = let r = next h' in let e = r.1 in (suc r.0, omega arith, r.2)

-- ---- one entry

-- an entry other than Submit changes each item by itself
each_counts : (set : Setup) (c : Core) (k : ℕ) (e : Event) (id : ℕ)
    → ((q : Queued) → item_in c.items id ≡ Some q → length (results_given set k e id q) + done q.status ≡ done (status_after set c.wait k e id q.item q.status))
    → length (given_in set k e id (item_in c.items id)) + done_in (item_in c.items id) ≡ done_in (item_in (each_from 1 (queued_after set c.wait k e) c.items) id)
each_counts set c k e zero h = refl
each_counts set c k e (suc m) h = go (nth c.items m) refl ∙ ap done_in (sym (each_nth 1 m (queued_after set c.wait k e) c.items ∙ numbered))
  where
    after : ℕ → Option Queued
    after id = elim (nth c.items m) [ None ↦ None | Some q ↦ Some (queued_after set c.wait k e id q) ]

    numbered : after (1 + m) ≡ after (suc m)
    numbered = ap after (omega arith)

    go : (o : Option Queued) → nth c.items m ≡ o
        → length (given_in set k e (suc m) (nth c.items m)) + done_in (nth c.items m) ≡ done_in (after (suc m))
    go None at = subst (λ o. length (given_in set k e (suc m) o) + done_in o ≡ done_in (elim o [ None ↦ None | Some q ↦ Some (queued_after set c.wait k e (suc m) q) ])) (sym at) refl
    go (Some q) at =
        subst (λ o. length (given_in set k e (suc m) o) + done_in o ≡ done_in (elim o [ None ↦ None | Some q' ↦ Some (queued_after set c.wait k e (suc m) q') ])) (sym at) (h q at)

appended : (m : ℕ) (qs : List Queued) (x : Queued) → done x.status ≡ 0 → done_in (nth qs m) ≡ done_in (nth (qs ++ x ∷ []) m)
appended zero [] x e = sym e
appended (suc m) [] x e = refl
appended zero (q ∷ qs) x e = refl
appended (suc m) (q ∷ qs) x e = appended m qs x e

submit_counts : (h : Handed) (qs : List Queued) (id : ℕ) → done_in (item_in qs id) ≡ done_in (item_in (with_item h qs) id)
submit_counts h qs zero = refl
submit_counts Handed.Nothing qs (suc m) = refl
submit_counts (Handed.Given item b) qs (suc m) = appended m qs _ refl
submit_counts (Handed.Lent d) qs (suc m) = refl
submit_counts (Handed.Held vs) qs (suc m) = refl

nothing_given : (set : Setup) (c : Core) (h : Handed) (k i : ℕ) (id : ℕ) → length (given_in set k (Event.Submit i) id (item_in c.items id)) ≡ 0
nothing_given set c h k i id = go (item_in c.items id)
  where
    go : (o : Option Queued) → length (given_in set k (Event.Submit i) id o) ≡ 0
    go None = refl
    go (Some q) = refl

take_guard : (set : Setup) (c : Core) (h : Handed) (k i : ℕ) → permitted set c h k (Event.Take i) ≡ true → is_id i (first_for 1 c.items k) ≡ true
take_guard set c h k i ok = (both _ _ ok).1

deliver_guard : (set : Setup) (c : Core) (h : Handed) (k i : ℕ) (v : Tree) → permitted set c h k (Event.Deliver i v) ≡ true → runs_or_dropped k (status_of c i) ≡ true
deliver_guard set c h k i v ok = (both _ _ (both _ _ ok).0).1

item_counts : (set : Setup) (c : Core) (h : Handed) (k : ℕ) (e : Event) (id : ℕ) → permitted set c h k e ≡ true
    → length (given_in set k e id (item_in c.items id)) + done_in (item_in c.items id) ≡ done_in (item_in (items_after set c h k e) id)
item_counts set c h k (Event.Submit i) id ok =
    let none = nothing_given set c h k i id in
    let same = submit_counts h c.items id in
    omega (arith, none, same)
item_counts set c h k (Event.Yield w) id ok = each_counts set c k (Event.Yield w) id (λ q at. omega arith)
item_counts set c h k Event.Resume id ok = each_counts set c k Event.Resume id (λ q at. let e = drop_counts (drops c.wait id) q.status in omega (arith, e))
item_counts set c h k (Event.Take i) id ok = each_counts set c k (Event.Take i) id (λ q at. let e = go q at (i == id) refl in omega (arith, e))
  where
    waits : (q : Queued) → item_in c.items id ≡ Some q → i ≡ id → is_waiting q.status ≡ true
    waits q at e =
        let r = first_waits 1 k i c.items (take_guard set c h k i ok) in
        let number = r.1 in
        let place : id ≡ suc r.0 = omega (arith, e, number) in
        subst (λ o. waits_in o ≡ true) (sym (ap (item_in c.items) place) ∙ at) r.2

    go : (q : Queued) → item_in c.items id ≡ Some q → (b : Bool) → (i == id) ≡ b → done q.status ≡ done (elim b [ true ↦ Running k | false ↦ q.status ])
    go q at true e = waiting_counts k q.status (waits q at (eqb-true i id e))
    go q at false e = refl
item_counts set c h k (Event.Access f r) id ok = each_counts set c k (Event.Access f r) id (λ q at. omega arith)
item_counts set c h k (Event.Ask n) id ok = each_counts set c k (Event.Ask n) id (λ q at. omega arith)
item_counts set c h k (Event.Print t) id ok = each_counts set c k (Event.Print t) id (λ q at. omega arith)
item_counts set c h k (Event.Enter ls) id ok = each_counts set c k (Event.Enter ls) id (λ q at. omega arith)
item_counts set c h k Event.Leave id ok = each_counts set c k Event.Leave id (λ q at. omega arith)
item_counts set c h k (Event.Deliver i v) id ok = each_counts set c k (Event.Deliver i v) id (λ q at. go q at (i == id) refl)
  where
    status_at : Option Queued → Option Status
    status_at o = elim o [ None ↦ None | Some q ↦ Some q.status ]

    item_is : (j : ℕ) → item_at c j ≡ item_in c.items j
    item_is zero = refl
    item_is (suc m) = refl

    ran : (q : Queued) → item_in c.items id ≡ Some q → i ≡ id → runs_or_dropped k (Some q.status) ≡ true
    ran q at e = subst (λ o. runs_or_dropped k (status_at o) ≡ true) (ap (item_at c) e ∙ item_is id ∙ at) (deliver_guard set c h k i v ok)

    go : (q : Queued) → item_in c.items id ≡ Some q → (b : Bool) → (i == id) ≡ b
        → length {A = Tree} (elim b [ true ↦ delivered_results v q.status | false ↦ [] ]) + done q.status ≡ done (elim b [ true ↦ delivered v q.status | false ↦ q.status ])
    go q at true e = deliver_counts k v q.status (ran q at (eqb-true i id e))
    go q at false e = omega arith
item_counts set c h k (Event.Lose cause) id ok =
    each_counts set c k (Event.Lose cause) id (λ q at. loss_counts q.status (fate set k q.item q.status) (λ v e. fate_done set k q.item q.status v e))
item_counts set c h k Event.Close id ok = each_counts set c k Event.Close id (λ q at. omega arith)

-- ---- a journal

entry_counts : (set : Setup) (c : Core) (p : Posted) (id : ℕ) → allowed set c p ≡ true
    → length (entry_results set c p id) + done_in (item_in c.items id) ≡ done_in (item_in (effect set c p).items id)
entry_counts set c p id ok = ap (λ o. length (given_in set p.entry.kernel p.entry.event id o) + done_in (item_in c.items id)) (item_is id) ∙ item_counts set c p.handed p.entry.kernel p.entry.event id (both _ _ ok).1
  where
    item_is : (j : ℕ) → item_at c j ≡ item_in c.items j
    item_is zero = refl
    item_is (suc m) = refl

pub all_count : (set : Setup) (c z : Core) (ps : List Posted) (id : ℕ) → replay_from set c ps ≡ Some z
    → length (results set c ps id) + done_in (item_in c.items id) ≡ done_in (item_in z.items id)
all_count set c z [] id r = let e = ap (λ x. done_in (item_in x.items id)) (some_is r) in omega (arith, e)
all_count set c z (p ∷ ps) id r =
    let parts = split (allowed set c p) (replay_from set (effect set c p) ps) z r in
    let here = entry_counts set c p id parts.0 in
    let rest = all_count set (effect set c p) z ps id parts.1 in
    let joined = length-append (entry_results set c p id) (results set (effect set c p) ps id) in
    omega (arith, here, rest, joined)

at_most : (o : Option Queued) → done_in o ≤ 1
at_most None = omega arith
at_most (Some q) = go q.status
  where
    go : (a : Status) → done a ≤ 1
    go Waiting = omega arith
    go (Running j) = omega arith
    go (Done v) = omega arith
    go Dropped = omega arith

none_at_start : (set : Setup) (id : ℕ) → done_in (item_in (start set).items id) ≡ 0
none_at_start set zero = refl
none_at_start set (suc m) = refl

pub one_result : (set : Setup) (ps : List Posted) (c : Core) → replay_from set (start set) ps ≡ Some c → (id : ℕ) → length (results set (start set) ps id) ≤ 1
one_result set ps c r id =
    let total = all_count set (start set) c ps id r in
    let first = none_at_start set id in
    let bound = at_most (item_in c.items id) in
    omega (arith, total, first, bound)

-- ---- waits

all_are_done : (c : Core) (ids : List ℕ) (id : ℕ) → all_done c ids ≡ true → member id ids ≡ true → done_in (item_in c.items id) ≡ 1
all_are_done c [] id h m = absurd (true≢false (sym m))
all_are_done c (i ∷ is) id h m = go (id == i) refl m (all_are_done c is id (both _ _ h).1)
  where
    done_at : (j : ℕ) → is_some (value_in (status_of c j)) ≡ true → done_in (item_in c.items j) ≡ 1
    done_at zero e = absurd (true≢false (sym e))
    done_at (suc n) e = of (nth c.items n) e
      where
        by_status : (a : Status) → is_some (value_in (Some a)) ≡ true → done a ≡ 1
        by_status Waiting e' = absurd (true≢false (sym e'))
        by_status (Running j) e' = absurd (true≢false (sym e'))
        by_status (Done v) e' = refl
        by_status Dropped e' = absurd (true≢false (sym e'))

        of : (o : Option Queued) → is_some (value_in (elim o [ None ↦ None | Some q ↦ Some q.status ])) ≡ true → done_in o ≡ 1
        of None e' = absurd (true≢false (sym e'))
        of (Some q) e' = by_status q.status e'

    go : (b : Bool) → (id == i) ≡ b → elim b [ true ↦ true | false ↦ member id is ] ≡ true → (member id is ≡ true → done_in (item_in c.items id) ≡ 1) → done_in (item_in c.items id) ≡ 1
    go true e m' next = subst (λ j. done_in (item_in c.items j) ≡ 1) (sym (eqb-true id i e)) (done_at i (both _ _ h).0)
    go false e m' next = next m'

finished : (n before after : ℕ) → n + before ≡ after → before ≡ 0 → after ≡ 1 → n ≡ 1
finished n before after e f g = omega (arith, e, f, g)

pub all_have_results : (set : Setup) (ps : List Posted) (c : Core) → replay_from set (start set) ps ≡ Some c
    → (p : Posted) (ids : List ℕ) → p.entry.event ≡ Event.Resume → c.wait ≡ Some (Wait.All ids) → allowed set c p ≡ true
    → (id : ℕ) → member id ids ≡ true → length (results set (start set) ps id) ≡ 1
all_have_results set ps c r p ids is_resume waits ok id m =
    let permits : permitted set c p.handed p.entry.kernel Event.Resume ≡ true = subst (λ e. permitted set c p.handed p.entry.kernel e ≡ true) is_resume (both _ _ ok).1 in
    let holds' : elim (c.wait) [ None ↦ false | Some w ↦ holds set.names c w ] ≡ true = (both _ _ (both _ _ permits).0).1 in
    let is_done : done_in (item_in c.items id) ≡ 1 = all_are_done c ids id (subst (λ w. elim w [ None ↦ false | Some v ↦ holds set.names c v ] ≡ true) waits holds') m in
    finished _ _ _ (all_count set (start set) c ps id r) (none_at_start set id) is_done
