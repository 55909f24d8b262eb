-- While a wait for items stands whose condition is false, and no kernel lives, the stand-in finds an item.
use Rattle.std.proofs.Common.{◌≡◌, refl, sym, ap, subst, ◌∙◌, ℕ, zero, suc, Bool, true, false, List, [], ◌∷◌, Option, Some, None, true≢false, eq-eqb, arith}
use Rattle.std.specs.Prelude.{◌&&◌, ◌||◌, not, ◌==◌}
use Rattle.expr_tree.specs.Tree.{Tree}
use Rattle.semantics.specs.Definitions.{is_empty}
use Rattle.semantics.specs.Names.{Names}
use Rattle.journal.specs.declared.recover.Recover.{Recover}
use Rattle.journal.specs.Places.{nth, is_some}
use Rattle.journal.specs.declared.event.Wait.{Wait}
use Rattle.journal.specs.declared.event.Event.{Event}
use Rattle.journal.specs.declared.item.Item.{Item}
use Rattle.journal.specs.Entry.{Posted}
use Rattle.journal.specs.declared.item.Status.{Status}
use Rattle.journal.specs.declared.item.Status.TheVariants.{Waiting, Running, Done, Dropped}
use Rattle.journal.specs.Core.{Setup, Core, Kernel, Queued, start, status_of, lives, count_living, is_dropped, names_item, name_items, value_in, result_of, all_done, any_done, any_success, holds, recovered, abandoned, failed, runs_on, fate, delivered, status_after, is_waiting, may_go, first_for, may_yield, permitted, allowed, items_after, wait_after, effect, replay_from}
use Rattle.laws_journal.specs.Views.{is_open_pin, is_for_items, StandInFinds}
use Rattle.laws_journal.proofs.Tables.{both, is_not, none≢some, some_is, split}
use Rattle.laws_journal.proofs.Attempts.{status_in, after_entry}
use Rattle.laws_journal.proofs.Doers.{doers_agree}
use Rattle.laws_journal.proofs.Pins.{pins_live}

-- ---- what is named stays so in a wait

delivered_named : (v : Tree) (a : Status) → is_dropped (Some a) ≡ false → is_dropped (Some (delivered v a)) ≡ false
delivered_named v Waiting h = refl
delivered_named v (Running k) h = refl
delivered_named v (Done w) h = refl
delivered_named v Dropped h = absurd (true≢false h)

recovered_named : (set : Setup) (item : Item) → is_dropped (Some (recovered set item)) ≡ false
recovered_named set item = go set.recovery
  where
    go : (r : Recover) → is_dropped (Some (elim r [ Recover.Retry ↦ Waiting | Recover.Abandon ↦ Done (abandoned set.names item) ])) ≡ false
    go Recover.Retry = refl
    go Recover.Abandon = refl

either_named : (b : Bool) (x y : Status) → is_dropped (Some x) ≡ false → is_dropped (Some y) ≡ false → is_dropped (Some (elim b [ true ↦ x | false ↦ y ])) ≡ false
either_named true x y h other = h
either_named false x y h other = other

lost_named : (set : Setup) (k : ℕ) (item : Item) (a : Status) → is_dropped (Some a) ≡ false → is_dropped (Some (fate set k item a)) ≡ false
lost_named set k (Item.Plain e) a h = either_named (runs_on k a) (recovered set (Item.Plain e)) a (recovered_named set (Item.Plain e)) h
lost_named set k (Item.Batch es) a h = either_named (runs_on k a) (recovered set (Item.Batch es)) a (recovered_named set (Item.Batch es)) h
lost_named set k (Item.Pinned i e) (Done v) h = refl
lost_named set k (Item.Pinned i e) Dropped h = absurd (true≢false h)
lost_named set k (Item.Pinned i e) Waiting h = either_named (i == k) (Done (failed set.names)) Waiting refl refl
lost_named set k (Item.Pinned i e) (Running n) h = either_named (i == k) (Done (failed set.names)) (Running n) refl refl

abbrev resumes : Event → Bool
resumes Event.Resume = true
resumes _ = false

status_named : (set : Setup) (c : Core) (k : ℕ) (e : Event) (m : ℕ) (q : Queued) → resumes e ≡ false → is_dropped (Some q.status) ≡ false → is_dropped (Some (status_after set c.wait k e (suc m) q.item q.status)) ≡ false
status_named set c k Event.Resume m q n h = absurd (true≢false n)
status_named set c k (Event.Take i) m q n h = either_named (i == suc m) (Running k) q.status refl h
status_named set c k (Event.Deliver i v) m q n h = either_named (i == suc m) (delivered v q.status) q.status (delivered_named v q.status h) h
status_named set c k (Event.Lose cause) m q n h = lost_named set k q.item q.status h
status_named set c k _ m q n h = h

named_after : (set : Setup) (c : Core) (p : Posted) (id : ℕ) → resumes p.entry.event ≡ false → names_item c id ≡ true → names_item (effect set c p) id ≡ true
named_after set c p zero n h = absurd (true≢false (sym h))
named_after set c p (suc m) n h = go (nth c.items m) refl
  where
    go : (o : Option Queued) → nth c.items m ≡ o → not (is_dropped (status_in (nth (items_after set c p.handed p.entry.kernel p.entry.event) m))) ≡ true
    go None at = absurd (true≢false (sym (sym (ap (λ o. not (is_dropped (status_in o))) at) ∙ h)))
    go (Some q) at =
        ap (λ s. not (is_dropped s)) (after_entry set c p.handed p.entry.kernel p.entry.event m q at)
        ∙ ap not (status_named set c p.entry.kernel p.entry.event m q n (is_not (is_dropped (Some q.status)) (sym (ap (λ o. not (is_dropped (status_in o))) at) ∙ h)))

all_named : (set : Setup) (c : Core) (p : Posted) (ids : List ℕ) → resumes p.entry.event ≡ false → name_items c ids ≡ true → name_items (effect set c p) ids ≡ true
all_named set c p [] n h = refl
all_named set c p (id ∷ ids) n h =
    let parts = both (names_item c id) (name_items c ids) h in
    ap (λ b. b && name_items (effect set c p) ids) (named_after set c p id n parts.0) ∙ all_named set c p ids n parts.1

-- ---- the standing wait

yields_named : (set : Setup) (c : Core) (p : Posted) (w : Wait) → resumes p.entry.event ≡ false → may_yield c w ≡ true → may_yield (effect set c p) w ≡ true
yields_named set c p (Wait.All ids) n h = all_named set c p ids n h
yields_named set c p (Wait.Next ids) n h =
    let parts = both (not (is_empty ids)) (name_items c ids) h in
    ap (λ b. b && name_items (effect set c p) ids) parts.0 ∙ all_named set c p ids n parts.1
yields_named set c p (Wait.Try ids) n h = all_named set c p ids n h
yields_named set c p (Wait.Locks ls) n h = refl

abbrev Named : Core → Type 0
Named c = (w : Wait) → c.wait ≡ Some w → may_yield c w ≡ true

named_entry : (set : Setup) (c : Core) (p : Posted) → Named c → allowed set c p ≡ true → Named (effect set c p)
named_entry set c p named ok w is = go p.entry.event refl is
  where
    permits : permitted set c p.handed p.entry.kernel p.entry.event ≡ true
    permits = (both (not c.closed && _) (permitted set c p.handed p.entry.kernel p.entry.event) ok).1

    same : (e : Event) → p.entry.event ≡ e → resumes e ≡ false → c.wait ≡ Some w → may_yield (effect set c p) w ≡ true
    same e at n h = yields_named set c p w (subst (λ f. resumes f ≡ false) (sym at) n) (named w h)

    go : (e : Event) → p.entry.event ≡ e → wait_after c.wait p.entry.event ≡ Some w → may_yield (effect set c p) w ≡ true
    go (Event.Yield v) at h =
        let guard = subst (λ e. permitted set c p.handed p.entry.kernel e ≡ true) at permits in
        let new : v ≡ w = some_is (sym (ap (wait_after c.wait) at) ∙ h) in
        yields_named set c p w (subst (λ f. resumes f ≡ false) (sym at) refl) (subst (λ x. may_yield c x ≡ true) new (both _ _ (both _ _ guard).0).1)
    go Event.Resume at h = absurd (none≢some (sym (ap (wait_after c.wait) at) ∙ h))
    go (Event.Submit i) at h = same (Event.Submit i) at refl (sym (ap (wait_after c.wait) at) ∙ h)
    go (Event.Take i) at h = same (Event.Take i) at refl (sym (ap (wait_after c.wait) at) ∙ h)
    go (Event.Access f r) at h = same (Event.Access f r) at refl (sym (ap (wait_after c.wait) at) ∙ h)
    go (Event.Ask n) at h = same (Event.Ask n) at refl (sym (ap (wait_after c.wait) at) ∙ h)
    go (Event.Print t) at h = same (Event.Print t) at refl (sym (ap (wait_after c.wait) at) ∙ h)
    go (Event.Enter ls) at h = same (Event.Enter ls) at refl (sym (ap (wait_after c.wait) at) ∙ h)
    go Event.Leave at h = same Event.Leave at refl (sym (ap (wait_after c.wait) at) ∙ h)
    go (Event.Deliver i v) at h = same (Event.Deliver i v) at refl (sym (ap (wait_after c.wait) at) ∙ h)
    go (Event.Lose cause) at h = same (Event.Lose cause) at refl (sym (ap (wait_after c.wait) at) ∙ h)
    go Event.Close at h = same Event.Close at refl (sym (ap (wait_after c.wait) at) ∙ h)

named_from : (set : Setup) (c z : Core) (ps : List Posted) → Named c → replay_from set c ps ≡ Some z → Named z
named_from set c z [] named r = subst Named (some_is r) named
named_from set c z (p ∷ ps) named r =
    let parts = split (allowed set c p) (replay_from set (effect set c p) ps) z r in
    named_from set (effect set c p) z ps (named_entry set c p named parts.0) parts.1

-- ---- an item without a result

record Undone (c : Core) : Type 0 where
  id : ℕ
  named : names_item c id ≡ true
  open_still : is_some (result_of c id) ≡ false

undone_in : (c : Core) (ids : List ℕ) → name_items c ids ≡ true → all_done c ids ≡ false → Undone c
undone_in c [] n h = absurd (true≢false h)
undone_in c (id ∷ ids) n h = go (is_some (result_of c id)) refl h (both (names_item c id) (name_items c ids) n) (undone_in c ids)
  where
    go : (b : Bool) → is_some (result_of c id) ≡ b → (b && all_done c ids) ≡ false → (names_item c id ≡ true) × (name_items c ids ≡ true) → (name_items c ids ≡ true → all_done c ids ≡ false → Undone c) → Undone c
    go true at h' parts next = next parts.1 h'
    go false at h' parts next = record { id = id; named = parts.0; open_still = at }

neither : (a b : Bool) → (a || b) ≡ false → (a ≡ false) × (b ≡ false)
neither true b e = absurd (true≢false e)
neither false b e = (refl, e)

undone : (names : Names) (c : Core) (w : Wait) → is_for_items w ≡ true → may_yield c w ≡ true → holds names c w ≡ false → Undone c
undone names c (Wait.All ids) i n h = undone_in c ids n h
undone names c (Wait.Next []) i n h = absurd (true≢false (sym n))
undone names c (Wait.Next (id ∷ ids)) i n h = record { id = id; named = (both (names_item c id) (name_items c ids) n).0; open_still = (neither (is_some (result_of c id)) (any_done c ids) h).0 }
undone names c (Wait.Try ids) i n h = undone_in c ids n (neither (any_success names c ids) (all_done c ids) h).1
undone names c (Wait.Locks ls) i n h = absurd (true≢false (sym i))

-- ---- finding it

none_live : (ks : List Kernel) (k : ℕ) → count_living ks ≡ 0 → elim (nth ks k) [ None ↦ false | Some x ↦ x.lives ] ≡ false
none_live [] k h = refl
none_live (x ∷ xs) k h = go x.lives refl h k (λ n rest. none_live xs n rest)
  where
    go : (b : Bool) → x.lives ≡ b → ◌≡◌ {A = ℕ} (elim b [ true ↦ suc (count_living xs) | false ↦ count_living xs ]) 0 → (n : ℕ)
        → ((m : ℕ) → count_living xs ≡ 0 → elim (nth xs m) [ None ↦ false | Some y ↦ y.lives ] ≡ false) → elim (nth (x ∷ xs) n) [ None ↦ false | Some y ↦ y.lives ] ≡ false
    go true at h' n next = absurd (omega (arith, h'))
    go false at h' zero next = at
    go false at h' (suc n) next = next n h'

found_at : (n m k : ℕ) (qs : List Queued) (q : Queued) → nth qs m ≡ Some q → (is_waiting q.status && may_go q.item k) ≡ true → is_some (first_for n qs k) ≡ true
found_at n m k [] q at h = absurd (none≢some at)
found_at n zero k (x ∷ xs) q at h = ap (λ b. is_some (elim b [ true ↦ Some n | false ↦ first_for (suc n) xs k ])) (ap (λ y. is_waiting y.status && may_go y.item k) (some_is at) ∙ h)
found_at n (suc m) k (x ∷ xs) q at h = go (is_waiting x.status && may_go x.item k) (found_at (suc n) m k xs q at h)
  where
    go : (b : Bool) → is_some (first_for (suc n) xs k) ≡ true → is_some (elim b [ true ↦ Some n | false ↦ first_for (suc n) xs k ]) ≡ true
    go true later = refl
    go false later = later

pub stand_in_finds : StandInFinds
stand_in_finds set ps c w r waits for_items unmet none idle = by_id u.id u.named u.open_still
  where
    u : Undone c
    u =
        undone set.names c w for_items (named_from set (start set) c ps (λ v e. absurd (none≢some e)) r w waits)
        (sym (ap (λ o. elim o [ None ↦ false | Some v ↦ holds set.names c v ]) waits) ∙ unmet)

    dead : (k : ℕ) → lives c k ≡ false
    dead k = none_live c.kernels k none

    no_runner : (id k : ℕ) → status_of c id ≡ Some (Running k) → ⊥
    no_runner id zero s = none≢some (sym idle ∙ (doers_agree set ps c r).0 id zero s)
    no_runner id (suc k) s = none≢some (sym ((doers_agree set ps c r).1 k (dead (suc k))) ∙ (doers_agree set ps c r).0 id (suc k) s)

    by_item : (m : ℕ) (q : Queued) (item : Item) → q.item ≡ item → nth c.items m ≡ Some q → q.status ≡ Waiting → is_some (first_for 1 c.items 0) ≡ true
    by_item m q (Item.Plain e) i at s = found_at 1 m 0 c.items q at (ap (λ a. is_waiting a && may_go q.item 0) s ∙ ap (λ x. may_go x 0) i)
    by_item m q (Item.Batch es) i at s = found_at 1 m 0 c.items q at (ap (λ a. is_waiting a && may_go q.item 0) s ∙ ap (λ x. may_go x 0) i)
    by_item m q (Item.Pinned j e) i at s =
        absurd
        (true≢false
        (sym (pins_live set ps c r (suc m) q j at (ap (λ x. is_open_pin x q.status j) i ∙ (ap (λ a. is_open_pin (Item.Pinned j e) a j) s ∙ eq-eqb j j refl)))
        ∙ dead j))

    by_status : (m : ℕ) (q : Queued) (a : Status) → q.status ≡ a → nth c.items m ≡ Some q → is_dropped (Some a) ≡ false → is_some (value_in (Some a)) ≡ false → is_some (first_for 1 c.items 0) ≡ true
    by_status m q Waiting s at n o = by_item m q q.item refl at s
    by_status m q (Running k) s at n o = absurd (no_runner (suc m) k (ap status_in at ∙ ap Some s))
    by_status m q (Done v) s at n o = absurd (true≢false o)
    by_status m q Dropped s at n o = absurd (true≢false n)

    by_id : (id : ℕ) → names_item c id ≡ true → is_some (result_of c id) ≡ false → is_some (first_for 1 c.items 0) ≡ true
    by_id zero n o = absurd (true≢false (sym n))
    by_id (suc m) n o = go (nth c.items m) refl
      where
        go : (x : Option Queued) → nth c.items m ≡ x → is_some (first_for 1 c.items 0) ≡ true
        go None at = absurd (true≢false (sym (sym (ap (λ y. not (is_dropped (status_in y))) at) ∙ n)))
        go (Some q) at =
            by_status m q q.status refl at (is_not (is_dropped (Some q.status)) (sym (ap (λ y. not (is_dropped (status_in y))) at) ∙ n)) (sym (ap (λ y. is_some (value_in (status_in y))) at) ∙ o)
