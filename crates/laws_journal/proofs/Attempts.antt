-- Who has an attempt at an item runs it, or it was dropped: so the second half of Deliver's guard says nothing new.
use Rattle.std.proofs.Common.{◌≡◌, refl, sym, ap, subst, ◌∙◌, ℕ, zero, suc, ◌+◌, Bool, true, false, List, [], ◌∷◌, ◌++◌, Option, Some, None, true≢false, eqb-true, eq-eqb, arith}
use Rattle.std.specs.Prelude.{◌&&◌, not, ◌==◌, replicate}
use Rattle.expr_tree.specs.Tree.{Tree}
use Rattle.journal.specs.Places.{nth, change_at, each_from}
use Rattle.journal.specs.declared.event.Event.{Event}
use Rattle.journal.specs.declared.item.Item.{Item}
use Rattle.journal.specs.Entry.{Posted, Handed}
use Rattle.journal.specs.declared.item.Status.{Status}
use Rattle.journal.specs.declared.item.Status.TheVariants.{Waiting, Running, Done, Dropped}
use Rattle.journal.specs.Core.{Setup, Core, Kernel, new_kernel, Queued, start, status_of, attempt_of, recovered, failed, fate, delivered, dropped, drops, status_after, queued_after, is_waiting, may_go, first_for, is_id, runs_or_dropped, permitted, allowed, with_item, items_after, kernel_after, effect, replay_from}
use Rattle.laws_journal.proofs.Tables.{both, none≢some, some_is, split, apart, each_nth, change_other, change_same}

-- a pinned item runs on its kernel alone
abbrev pub pin_ok : Item → Status → Bool
pin_ok (Item.Pinned i e) (Running j) = i == j
pin_ok _ _ = true

abbrev pub pin_in : Option Queued → Bool
pin_in None = true
pin_in (Some q) = pin_ok q.item q.status

abbrev pub status_in : Option Queued → Option Status
status_in o = elim o [ None ↦ None | Some q ↦ Some q.status ]

pub record Agrees (c : Core) : Type 0 where
  pub runs : (k id : ℕ) → attempt_of c k ≡ Some id → runs_or_dropped k (status_of c id) ≡ true
  pub pins : (m : ℕ) → pin_in (nth c.items m) ≡ true

-- the entries that change attempts
abbrev pub attempts : Event → Bool
attempts (Event.Take i) = true
attempts (Event.Deliver i v) = true
attempts (Event.Lose cause) = true
attempts _ = false

-- ---- one item

drop_keeps : (b : Bool) (k : ℕ) (a : Status) → runs_or_dropped k (Some a) ≡ true → runs_or_dropped k (Some (elim b [ true ↦ dropped a | false ↦ a ])) ≡ true
drop_keeps true k Waiting h = refl
drop_keeps true k (Running j) h = refl
drop_keeps true k (Done v) h = h
drop_keeps true k Dropped h = refl
drop_keeps false k a h = h

take_keeps : (b : Bool) (j k : ℕ) (a : Status) → (b ≡ true → is_waiting a ≡ true) → runs_or_dropped k (Some a) ≡ true → runs_or_dropped k (Some (elim b [ true ↦ Running j | false ↦ a ])) ≡ true
take_keeps false j k a w h = h
take_keeps true j k Waiting w h = absurd (true≢false (sym h))
take_keeps true j k (Running i) w h = absurd (true≢false (sym (w refl)))
take_keeps true j k (Done v) w h = absurd (true≢false (sym h))
take_keeps true j k Dropped w h = absurd (true≢false (sym (w refl)))

deliver_keeps : (b : Bool) (j k : ℕ) (v : Tree) (a : Status) → (j ≡ k → ⊥) → (b ≡ true → runs_or_dropped j (Some a) ≡ true) → runs_or_dropped k (Some a) ≡ true
    → runs_or_dropped k (Some (elim b [ true ↦ delivered v a | false ↦ a ])) ≡ true
deliver_keeps false j k v a ne w h = h
deliver_keeps true j k v Waiting ne w h = absurd (true≢false (sym h))
deliver_keeps true j k v (Running i) ne w h = absurd (ne (sym (eqb-true i j (w refl)) ∙ eqb-true i k h))
deliver_keeps true j k v (Done u) ne w h = absurd (true≢false (sym h))
deliver_keeps true j k v Dropped ne w h = refl

-- an item that runs on k stays so where another kernel is lost
lose_keeps : (set : Setup) (j k : ℕ) (item : Item) (a : Status) → (j ≡ k → ⊥) → pin_ok item a ≡ true → runs_or_dropped k (Some a) ≡ true → runs_or_dropped k (Some (fate set j item a)) ≡ true
lose_keeps set j k item Waiting ne pin h = absurd (true≢false (sym h))
lose_keeps set j k item (Done v) ne pin h = absurd (true≢false (sym h))
lose_keeps set j k (Item.Plain e) Dropped ne pin h = refl
lose_keeps set j k (Item.Batch es) Dropped ne pin h = refl
lose_keeps set j k (Item.Pinned i e) Dropped ne pin h = refl
lose_keeps set j k (Item.Plain e) (Running i) ne pin h = go (i == j) refl
  where
    go : (b : Bool) → (i == j) ≡ b → runs_or_dropped k (Some (elim b [ true ↦ recovered set (Item.Plain e) | false ↦ Running i ])) ≡ true
    go true b = absurd (ne (sym (eqb-true i j b) ∙ eqb-true i k h))
    go false b = h
lose_keeps set j k (Item.Batch es) (Running i) ne pin h = go (i == j) refl
  where
    go : (b : Bool) → (i == j) ≡ b → runs_or_dropped k (Some (elim b [ true ↦ recovered set (Item.Batch es) | false ↦ Running i ])) ≡ true
    go true b = absurd (ne (sym (eqb-true i j b) ∙ eqb-true i k h))
    go false b = h
lose_keeps set j k (Item.Pinned p e) (Running i) ne pin h = go (p == j) refl
  where
    go : (b : Bool) → (p == j) ≡ b → runs_or_dropped k (Some (elim b [ true ↦ Done (failed set.names) | false ↦ Running i ])) ≡ true
    go true b = absurd (ne (sym (eqb-true p j b) ∙ eqb-true p i pin ∙ eqb-true i k h))
    go false b = h

-- ---- taking

abbrev may_be_taken : ℕ → Option Queued → Bool
may_be_taken k None = false
may_be_taken k (Some q) = is_waiting q.status && may_go q.item k

first_may : (n k id : ℕ) (qs : List Queued) → is_id id (first_for n qs k) ≡ true → (m : ℕ) × (id ≡ n + m) × (may_be_taken k (nth qs m) ≡ true)
first_may n k id [] h = absurd (true≢false (sym h))
first_may n k id (q ∷ qs) h = go (is_waiting q.status && may_go q.item k) refl h (first_may (suc n) k id qs)
  where
    go : (b : Bool) → (is_waiting q.status && may_go q.item k) ≡ b → is_id id (elim b [ true ↦ Some n | false ↦ first_for (suc n) qs k ]) ≡ true
        → (is_id id (first_for (suc n) qs k) ≡ true → (m : ℕ) × (id ≡ suc n + m) × (may_be_taken k (nth qs m) ≡ true))
        → (m : ℕ) × (id ≡ n + m) × (may_be_taken k (nth (q ∷ qs) m) ≡ true)
    go true w h' next = let e = eqb-true id n h' in (0, omega arith, w)
    go false w h' next = let r = next h' in let e = r.1 in (suc r.0, omega arith, r.2)

take_guard : (set : Setup) (c : Core) (h : Handed) (k i : ℕ) → permitted set c h k (Event.Take i) ≡ true → is_id i (first_for 1 c.items k) ≡ true
take_guard set c h k i ok = (both _ _ ok).1

pub taken_may : (set : Setup) (c : Core) (h : Handed) (k i m : ℕ) (q : Queued) → permitted set c h k (Event.Take i) ≡ true → nth c.items m ≡ Some q → i ≡ suc m → (is_waiting q.status ≡ true) × (may_go q.item k ≡ true)
taken_may set c h k i m q ok at e =
    let r = first_may 1 k i c.items (take_guard set c h k i ok) in
    let number = r.1 in
    let place : r.0 ≡ m = omega (arith, e, number) in
    both (is_waiting q.status) (may_go q.item k) (subst (λ o. may_be_taken k o ≡ true) (ap (nth c.items) place ∙ at) r.2)

deliver_guard : (set : Setup) (c : Core) (h : Handed) (k i : ℕ) (v : Tree) → permitted set c h k (Event.Deliver i v) ≡ true → runs_or_dropped k (status_of c i) ≡ true
deliver_guard set c h k i v ok = (both _ _ (both _ _ ok).0).1

-- ---- one entry

-- an item that k runs, or that was dropped, stays so, whatever another posts
item_keeps : (set : Setup) (c : Core) (h : Handed) (j k : ℕ) (e : Event) (m : ℕ) (q : Queued) → permitted set c h j e ≡ true → (attempts e ≡ true → j ≡ k → ⊥)
    → nth c.items m ≡ Some q → pin_ok q.item q.status ≡ true → runs_or_dropped k (Some q.status) ≡ true → runs_or_dropped k (Some (status_after set c.wait j e (suc m) q.item q.status)) ≡ true
item_keeps set c h j k (Event.Take i) m q ok ne at pin r = take_keeps (i == suc m) j k q.status (λ b. (taken_may set c h j i m q ok at (eqb-true i (suc m) b)).0) r
item_keeps set c h j k (Event.Deliver i v) m q ok ne at pin r =
    deliver_keeps (i == suc m) j k v q.status (ne refl)
    (λ b. subst (λ o. runs_or_dropped j (status_in o) ≡ true) at (subst (λ n. runs_or_dropped j (status_of c n) ≡ true) (eqb-true i (suc m) b) (deliver_guard set c h j i v ok))) r
item_keeps set c h j k (Event.Lose cause) m q ok ne at pin r = lose_keeps set j k q.item q.status (ne refl) pin r
item_keeps set c h j k Event.Resume m q ok ne at pin r = drop_keeps (drops c.wait (suc m)) k q.status r
item_keeps set c h j k _ m q ok ne at pin r = r

-- the same of the list of items
there_still : (m : ℕ) (qs : List Queued) (x q : Queued) → nth qs m ≡ Some q → nth (qs ++ x ∷ []) m ≡ Some q
there_still m [] x q e = absurd (none≢some e)
there_still zero (y ∷ qs) x q e = e
there_still (suc m) (y ∷ qs) x q e = there_still m qs x q e

pub submitted : (h : Handed) (qs : List Queued) (m : ℕ) (q : Queued) → nth qs m ≡ Some q → nth (with_item h qs) m ≡ Some q
submitted Handed.Nothing qs m q e = e
submitted (Handed.Given item b) qs m q e = there_still m qs _ q e
submitted (Handed.Lent d) qs m q e = e
submitted (Handed.Held vs) qs m q e = e

is_submit : Event → Bool
is_submit (Event.Submit id) = true
is_submit _ = false

pub changed : (set : Setup) (c : Core) (j : ℕ) (e : Event) (m : ℕ) (q : Queued) → nth c.items m ≡ Some q → nth (each_from 1 (queued_after set c.wait j e) c.items) m ≡ Some (queued_after set c.wait j e (suc m) q)
changed set c j e m q at = each_nth 1 m (queued_after set c.wait j e) c.items ∙ ap (λ o. elim o [ None ↦ None | Some x ↦ Some (queued_after set c.wait j e (1 + m) x) ]) at ∙ ap (λ n. Some (queued_after set c.wait j e n q)) (omega arith)

pub after_entry : (set : Setup) (c : Core) (h : Handed) (j : ℕ) (e : Event) (m : ℕ) (q : Queued) → nth c.items m ≡ Some q → status_in (nth (items_after set c h j e) m) ≡ Some (status_after set c.wait j e (suc m) q.item q.status)
after_entry set c h j (Event.Submit id) m q at = ap status_in (submitted h c.items m q at)
after_entry set c h j (Event.Yield w) m q at = ap status_in (changed set c j (Event.Yield w) m q at)
after_entry set c h j Event.Resume m q at = ap status_in (changed set c j Event.Resume m q at)
after_entry set c h j (Event.Take i) m q at = ap status_in (changed set c j (Event.Take i) m q at)
after_entry set c h j (Event.Access f r) m q at = ap status_in (changed set c j (Event.Access f r) m q at)
after_entry set c h j (Event.Ask n) m q at = ap status_in (changed set c j (Event.Ask n) m q at)
after_entry set c h j (Event.Print t) m q at = ap status_in (changed set c j (Event.Print t) m q at)
after_entry set c h j (Event.Enter ls) m q at = ap status_in (changed set c j (Event.Enter ls) m q at)
after_entry set c h j Event.Leave m q at = ap status_in (changed set c j Event.Leave m q at)
after_entry set c h j (Event.Deliver i v) m q at = ap status_in (changed set c j (Event.Deliver i v) m q at)
after_entry set c h j (Event.Lose cause) m q at = ap status_in (changed set c j (Event.Lose cause) m q at)
after_entry set c h j Event.Close m q at = ap status_in (changed set c j Event.Close m q at)

-- whoever has an attempt that this entry leaves alone
still_runs : (set : Setup) (c : Core) (h : Handed) (j k : ℕ) (e : Event) (id : ℕ) → permitted set c h j e ≡ true → (attempts e ≡ true → j ≡ k → ⊥) → Agrees c
    → runs_or_dropped k (status_of c id) ≡ true → (m : ℕ) → id ≡ suc m → runs_or_dropped k (status_in (nth (items_after set c h j e) m)) ≡ true
still_runs set c h j k e id ok ne agrees r m is = go (nth c.items m) refl (subst (λ n. runs_or_dropped k (status_of c n) ≡ true) is r)
  where
    go : (o : Option Queued) → nth c.items m ≡ o → runs_or_dropped k (status_in (nth c.items m)) ≡ true → runs_or_dropped k (status_in (nth (items_after set c h j e) m)) ≡ true
    go None at r' = absurd (true≢false (sym (subst (λ o. runs_or_dropped k (status_in o) ≡ true) at r')))
    go (Some q) at r' =
        subst (λ s. runs_or_dropped k s ≡ true) (sym (after_entry set c h j e m q at))
        (item_keeps set c h j k e m q ok ne at (subst (λ o. pin_in o ≡ true) at (agrees.pins m)) (subst (λ o. runs_or_dropped k (status_in o) ≡ true) at r'))

-- ---- pins

pin_quiet : (item : Item) (a : Status) → ((j : ℕ) → a ≡ Running j → ⊥) → pin_ok item a ≡ true
pin_quiet (Item.Plain e) a h = refl
pin_quiet (Item.Batch es) a h = refl
pin_quiet (Item.Pinned p e) Waiting h = refl
pin_quiet (Item.Pinned p e) (Running j) h = absurd (h j refl)
pin_quiet (Item.Pinned p e) (Done v) h = refl
pin_quiet (Item.Pinned p e) Dropped h = refl

pin_take : (b : Bool) (j : ℕ) (item : Item) (a : Status) → (b ≡ true → may_go item j ≡ true) → pin_ok item a ≡ true → pin_ok item (elim b [ true ↦ Running j | false ↦ a ]) ≡ true
pin_take false j item a w h = h
pin_take true j (Item.Plain e) a w h = refl
pin_take true j (Item.Batch es) a w h = refl
pin_take true j (Item.Pinned p e) a w h = w refl

pin_deliver : (b : Bool) (v : Tree) (item : Item) (a : Status) → pin_ok item a ≡ true → pin_ok item (elim b [ true ↦ delivered v a | false ↦ a ]) ≡ true
pin_deliver false v item a h = h
pin_deliver true v (Item.Plain e) a h = refl
pin_deliver true v (Item.Batch es) a h = refl
pin_deliver true v (Item.Pinned p e) Waiting h = refl
pin_deliver true v (Item.Pinned p e) (Running j) h = refl
pin_deliver true v (Item.Pinned p e) (Done w) h = refl
pin_deliver true v (Item.Pinned p e) Dropped h = refl

pin_drop : (b : Bool) (item : Item) (a : Status) → pin_ok item a ≡ true → pin_ok item (elim b [ true ↦ dropped a | false ↦ a ]) ≡ true
pin_drop false item a h = h
pin_drop true (Item.Plain e) a h = refl
pin_drop true (Item.Batch es) a h = refl
pin_drop true (Item.Pinned p e) Waiting h = refl
pin_drop true (Item.Pinned p e) (Running j) h = refl
pin_drop true (Item.Pinned p e) (Done w) h = refl
pin_drop true (Item.Pinned p e) Dropped h = refl

pin_or_done : (b : Bool) (p : ℕ) (e v : Tree) (a : Status) → pin_ok (Item.Pinned p e) a ≡ true → pin_ok (Item.Pinned p e) (elim b [ true ↦ Done v | false ↦ a ]) ≡ true
pin_or_done true p e v a h = refl
pin_or_done false p e v a h = h

pin_lose : (set : Setup) (j : ℕ) (item : Item) (a : Status) → pin_ok item a ≡ true → pin_ok item (fate set j item a) ≡ true
pin_lose set j (Item.Plain e) a h = refl
pin_lose set j (Item.Batch es) a h = refl
pin_lose set j (Item.Pinned p e) (Done v) h = refl
pin_lose set j (Item.Pinned p e) Dropped h = refl
pin_lose set j (Item.Pinned p e) Waiting h = pin_or_done (p == j) p e (failed set.names) Waiting h
pin_lose set j (Item.Pinned p e) (Running i) h = pin_or_done (p == j) p e (failed set.names) (Running i) h

pin_item : (set : Setup) (c : Core) (h : Handed) (j : ℕ) (e : Event) (m : ℕ) (q : Queued) → permitted set c h j e ≡ true → nth c.items m ≡ Some q → pin_ok q.item q.status ≡ true
    → pin_ok q.item (status_after set c.wait j e (suc m) q.item q.status) ≡ true
pin_item set c h j (Event.Take i) m q ok at pin = pin_take (i == suc m) j q.item q.status (λ b. (taken_may set c h j i m q ok at (eqb-true i (suc m) b)).1) pin
pin_item set c h j (Event.Deliver i v) m q ok at pin = pin_deliver (i == suc m) v q.item q.status pin
pin_item set c h j (Event.Lose cause) m q ok at pin = pin_lose set j q.item q.status pin
pin_item set c h j Event.Resume m q ok at pin = pin_drop (drops c.wait (suc m)) q.item q.status pin
pin_item set c h j _ m q ok at pin = pin

pin_each : (set : Setup) (c : Core) (h : Handed) (j : ℕ) (e : Event) (m : ℕ) → permitted set c h j e ≡ true → pin_in (nth c.items m) ≡ true → pin_in (nth (each_from 1 (queued_after set c.wait j e) c.items) m) ≡ true
pin_each set c h j e m ok pin = go (nth c.items m) refl pin
  where
    go : (o : Option Queued) → nth c.items m ≡ o → pin_in (nth c.items m) ≡ true → pin_in (nth (each_from 1 (queued_after set c.wait j e) c.items) m) ≡ true
    go None at r = subst (λ o. pin_in o ≡ true) (sym (each_nth 1 m (queued_after set c.wait j e) c.items ∙ ap (λ o. elim o [ None ↦ None | Some x ↦ Some (queued_after set c.wait j e (1 + m) x) ]) at)) refl
    go (Some q) at r = subst (λ o. pin_in o ≡ true) (sym (changed set c j e m q at)) (pin_item set c h j e m q ok at (subst (λ o. pin_in o ≡ true) at r))

pin_new : (m : ℕ) (qs : List Queued) (x : Queued) → pin_ok x.item x.status ≡ true → pin_in (nth qs m) ≡ true → pin_in (nth (qs ++ x ∷ []) m) ≡ true
pin_new zero [] x new h = new
pin_new (suc m) [] x new h = refl
pin_new zero (q ∷ qs) x new h = h
pin_new (suc m) (q ∷ qs) x new h = pin_new m qs x new h

waiting_pin : (item : Item) → pin_ok item Waiting ≡ true
waiting_pin (Item.Plain e) = refl
waiting_pin (Item.Batch es) = refl
waiting_pin (Item.Pinned p e) = refl

pin_submit : (h : Handed) (qs : List Queued) (m : ℕ) → pin_in (nth qs m) ≡ true → pin_in (nth (with_item h qs) m) ≡ true
pin_submit Handed.Nothing qs m r = r
pin_submit (Handed.Given item b) qs m r = pin_new m qs _ (waiting_pin item) r
pin_submit (Handed.Lent d) qs m r = r
pin_submit (Handed.Held vs) qs m r = r

pins_after : (set : Setup) (c : Core) (h : Handed) (j : ℕ) (e : Event) (m : ℕ) → permitted set c h j e ≡ true → pin_in (nth c.items m) ≡ true → pin_in (nth (items_after set c h j e) m) ≡ true
pins_after set c h j (Event.Submit id) m ok pin = pin_submit h c.items m pin
pins_after set c h j (Event.Yield w) m ok pin = pin_each set c h j (Event.Yield w) m ok pin
pins_after set c h j Event.Resume m ok pin = pin_each set c h j Event.Resume m ok pin
pins_after set c h j (Event.Take i) m ok pin = pin_each set c h j (Event.Take i) m ok pin
pins_after set c h j (Event.Access f r) m ok pin = pin_each set c h j (Event.Access f r) m ok pin
pins_after set c h j (Event.Ask n) m ok pin = pin_each set c h j (Event.Ask n) m ok pin
pins_after set c h j (Event.Print t) m ok pin = pin_each set c h j (Event.Print t) m ok pin
pins_after set c h j (Event.Enter ls) m ok pin = pin_each set c h j (Event.Enter ls) m ok pin
pins_after set c h j Event.Leave m ok pin = pin_each set c h j Event.Leave m ok pin
pins_after set c h j (Event.Deliver i v) m ok pin = pin_each set c h j (Event.Deliver i v) m ok pin
pins_after set c h j (Event.Lose cause) m ok pin = pin_each set c h j (Event.Lose cause) m ok pin
pins_after set c h j Event.Close m ok pin = pin_each set c h j Event.Close m ok pin

-- ---- all kernels

itself : (k : ℕ) → (k == k) ≡ true
itself k = eq-eqb k k refl

-- who takes an item runs it
take_runs : (set : Setup) (c : Core) (h : Handed) (k i : ℕ) → permitted set c h k (Event.Take i) ≡ true → (m : ℕ) × (i ≡ suc m) × (runs_or_dropped k (status_in (nth (items_after set c h k (Event.Take i)) m)) ≡ true)
take_runs set c h k i ok =
    let r = first_may 1 k i c.items (take_guard set c h k i ok) in
    let number = r.1 in
    let place : i ≡ suc r.0 = omega (arith, number) in
    (r.0, place, go r.0 place (nth c.items r.0) refl r.2)
  where
    go : (m : ℕ) → i ≡ suc m → (o : Option Queued) → nth c.items m ≡ o → may_be_taken k (nth c.items m) ≡ true → runs_or_dropped k (status_in (nth (items_after set c h k (Event.Take i)) m)) ≡ true
    go m place None at w = absurd (true≢false (sym (subst (λ o. may_be_taken k o ≡ true) at w)))
    go m place (Some q) at w =
        subst (λ s. runs_or_dropped k s ≡ true) (sym (after_entry set c h k (Event.Take i) m q at))
        (subst (λ b. runs_or_dropped k (Some (elim b [ true ↦ Running k | false ↦ q.status ])) ≡ true) (sym (eq-eqb i (suc m) place)) (itself k))

abbrev attempt_in : Option Kernel → Option ℕ
attempt_in o = elim o [ None ↦ None | Some x ↦ x.attempt ]

-- the attempts of the kernel that posts
pub own_attempt : (e : Event) (x : Kernel) → attempts e ≡ false → (kernel_after e x).attempt ≡ x.attempt
own_attempt (Event.Take i) x h = absurd (true≢false h)
own_attempt (Event.Deliver i v) x h = absurd (true≢false h)
own_attempt (Event.Lose cause) x h = absurd (true≢false h)
own_attempt _ x h = refl

not_both : (e : Event) → attempts e ≡ false → attempts e ≡ true → ⊥
not_both e f t = true≢false (sym t ∙ f)

-- past the end nothing is there afterwards either
pub past : (n : ℕ) (f : Kernel → Kernel) (ks : List Kernel) → nth ks n ≡ None → nth (change_at n f ks) n ≡ None
past n f [] z = refl
past zero f (x ∷ xs) z = absurd (none≢some (sym z))
past (suc n) f (x ∷ xs) z = past n f xs z

pub agrees_after : (set : Setup) (c : Core) (p : Posted) → Agrees c → allowed set c p ≡ true → Agrees (effect set c p)
agrees_after set c p agrees ok =
    record {
      runs = λ k id a. runs_now k id a;
      pins = λ m. pins_after set c p.handed p.entry.kernel p.entry.event m permits (agrees.pins m);
    }
  where
    j : ℕ
    j = p.entry.kernel

    permits : permitted set c p.handed p.entry.kernel p.entry.event ≡ true
    permits = (both (not c.closed && _) (permitted set c p.handed p.entry.kernel p.entry.event) ok).1

    -- an attempt that this entry leaves alone
    old : (k id : ℕ) → (attempts p.entry.event ≡ true → j ≡ k → ⊥) → attempt_of c k ≡ Some id → runs_or_dropped k (status_of (effect set c p) id) ≡ true
    old k zero ne a = absurd (true≢false (sym (agrees.runs k zero a)))
    old k (suc m) ne a = still_runs set c p.handed j k p.entry.event (suc m) permits ne agrees (agrees.runs k (suc m) a) m refl

    own : (k id : ℕ) (x : Kernel) (e : Event) → p.entry.event ≡ e → j ≡ k → nth c.kernels k ≡ Some x → (kernel_after e x).attempt ≡ Some id → runs_or_dropped k (status_of (effect set c p) id) ≡ true
    own k id x (Event.Take i) is same at a =
        let r = take_runs set c p.handed k i (subst (λ n. permitted set c p.handed n (Event.Take i) ≡ true) same (subst (λ e. permitted set c p.handed j e ≡ true) is permits)) in
        let number : id ≡ suc r.0 = sym (some_is a) ∙ r.1 in
        subst (λ n. runs_or_dropped k (status_of (effect set c p) n) ≡ true) (sym number)
        (subst (λ n. runs_or_dropped k (status_in (nth (items_after set c p.handed n p.entry.event) r.0)) ≡ true) (sym same)
        (subst (λ e. runs_or_dropped k (status_in (nth (items_after set c p.handed k e) r.0)) ≡ true) (sym is) r.2))
    own k id x (Event.Deliver i v) is same at a = absurd (none≢some a)
    own k id x (Event.Lose cause) is same at a = absurd (none≢some a)
    own k id x e is same at a = old k id (λ t s. not_both e refl (subst (λ f. attempts f ≡ true) is t)) (ap attempt_in at ∙ sym (own_attempt e x refl) ∙ a)

    runs_now : (k id : ℕ) → attempt_of (effect set c p) k ≡ Some id → runs_or_dropped k (status_of (effect set c p) id) ≡ true
    runs_now k id a = go (j == k) refl (nth c.kernels k) refl
      where
        go : (b : Bool) → (j == k) ≡ b → (o : Option Kernel) → nth c.kernels k ≡ o → runs_or_dropped k (status_of (effect set c p) id) ≡ true
        go false b o at = old k id (λ t. apart j k b) (sym (ap attempt_in (change_other j k (kernel_after p.entry.event) c.kernels (apart j k b))) ∙ a)
        go true b None at = absurd (none≢some (sym (ap attempt_in (subst (λ n. nth (change_at n (kernel_after p.entry.event) c.kernels) k ≡ None) (sym (eqb-true j k b)) (past k (kernel_after p.entry.event) c.kernels at))) ∙ a))
        go true b (Some x) at =
            own k id x p.entry.event refl (eqb-true j k b) at
            (sym (ap attempt_in (subst (λ n. nth (change_at n (kernel_after p.entry.event) c.kernels) k ≡ Some (kernel_after p.entry.event x)) (sym (eqb-true j k b)) (change_same k (kernel_after p.entry.event) c.kernels x at))) ∙ a)

agrees_from : (set : Setup) (c z : Core) (ps : List Posted) → Agrees c → replay_from set c ps ≡ Some z → Agrees z
agrees_from set c z [] agrees r = subst Agrees (some_is r) agrees
agrees_from set c z (p ∷ ps) agrees r =
    let parts = split (allowed set c p) (replay_from set (effect set c p) ps) z r in
    agrees_from set (effect set c p) z ps (agrees_after set c p agrees parts.0) parts.1

no_attempt : (n k : ℕ) → attempt_in (nth (replicate n (new_kernel true)) k) ≡ None
no_attempt zero k = refl
no_attempt (suc n) zero = refl
no_attempt (suc n) (suc k) = no_attempt n k

start_attempt : (set : Setup) (k : ℕ) → attempt_of (start set) k ≡ None
start_attempt set zero = refl
start_attempt set (suc k) = no_attempt set.kernels k

pub agrees_at_start : (set : Setup) → Agrees (start set)
agrees_at_start set = record { runs = λ k id a. absurd (none≢some (sym (start_attempt set k) ∙ a)); pins = λ m. refl }

pub attempts_agree : (set : Setup) (ps : List Posted) (c : Core) → replay_from set (start set) ps ≡ Some c → (k id : ℕ) → attempt_of c k ≡ Some id → runs_or_dropped k (status_of c id) ≡ true
attempts_agree set ps c r = (agrees_from set (start set) c ps (agrees_at_start set) r).runs
