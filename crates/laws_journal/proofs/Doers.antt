-- An item that runs is run by its kernel, and who does not live runs nothing.
use Rattle.std.proofs.Common.{◌≡◌, refl, sym, ap, subst, ◌∙◌, ℕ, zero, suc, ◌+◌, Bool, true, false, List, [], ◌∷◌, ◌++◌, Option, Some, None, true≢false, eqb-true, eq-eqb, inl, inr}
use Rattle.std.specs.Prelude.{◌&&◌, not, ◌==◌, ◌⊎◌, replicate}
use Rattle.expr_tree.specs.Tree.{Tree}
use Rattle.journal.specs.declared.recover.Recover.{Recover}
use Rattle.journal.specs.Places.{nth, change_at, each_from, is_some}
use Rattle.journal.specs.declared.event.Event.{Event}
use Rattle.journal.specs.declared.item.Item.{Item}
use Rattle.journal.specs.Entry.{Posted, Handed}
use Rattle.journal.specs.declared.item.Status.{Status}
use Rattle.journal.specs.declared.item.Status.TheVariants.{Waiting, Running, Done, Dropped}
use Rattle.journal.specs.Core.{Setup, Core, Kernel, new_kernel, Queued, start, status_of, attempt_of, lives, has_attempt, recovered, abandoned, failed, fate, runs_on, delivered, dropped, drops, status_after, queued_after, is_id, permitted, allowed, items_after, kernel_after, effect, replay_from}
use Rattle.laws_journal.specs.Views.{DoersAgree}
use Rattle.laws_journal.proofs.Tables.{both, is_not, none≢some, some_is, split, apart, each_nth, change_other, change_same}
use Rattle.laws_journal.proofs.Attempts.{pin_ok, pin_in, agrees_at_start, status_in, Agrees, after_entry, agrees_after, attempts, own_attempt, past}

abbrev attempt_in : Option Kernel → Option ℕ
attempt_in o = elim o [ None ↦ None | Some x ↦ x.attempt ]

-- ---- statuses

number_of : Status → ℕ
number_of (Running j) = j
number_of _ = 0

is_running : Status → Bool
is_running (Running j) = true
is_running _ = false

same_number : {i k : ℕ} → ◌≡◌ {A = Status} (Running i) (Running k) → i ≡ k
unfolding number_of
same_number e = ap number_of e

waits_not : {k : ℕ} → ◌≡◌ {A = Status} Waiting (Running k) → ⊥
unfolding is_running
waits_not e = true≢false (sym (ap is_running e))

done_not : {k : ℕ} {v : Tree} → ◌≡◌ {A = Status} (Done v) (Running k) → ⊥
unfolding is_running
done_not e = true≢false (sym (ap is_running e))

drop_not : {k : ℕ} → ◌≡◌ {A = Status} Dropped (Running k) → ⊥
unfolding is_running
drop_not e = true≢false (sym (ap is_running e))

delivered_not : (v : Tree) (a : Status) (k : ℕ) → delivered v a ≡ Running k → ⊥
delivered_not v Waiting k e = done_not e
delivered_not v (Running j) k e = done_not e
delivered_not v (Done w) k e = done_not e
delivered_not v Dropped k e = drop_not e

dropped_not : (a : Status) (k : ℕ) → dropped a ≡ Running k → ⊥
dropped_not Waiting k e = drop_not e
dropped_not (Running j) k e = drop_not e
dropped_not (Done w) k e = done_not e
dropped_not Dropped k e = drop_not e

recovered_not : (set : Setup) (item : Item) (k : ℕ) → recovered set item ≡ Running k → ⊥
recovered_not set item k e = go set.recovery e
  where
    go : (r : Recover) → elim r [ Recover.Retry ↦ Waiting | Recover.Abandon ↦ Done (abandoned set.names item) ] ≡ Running k → ⊥
    go Recover.Retry e' = waits_not e'
    go Recover.Abandon e' = done_not e'

-- ---- one entry

-- what runs on k afterwards was taken now by k, or ran on k before, and k's attempt is none of those that this entry ends or begins
abbrev Ran : ℕ → ℕ → Event → ℕ → Status → Type 0
Ran j k e m a = ((e ≡ Event.Take (suc m)) × (j ≡ k)) ⊎ ((a ≡ Running k) × (attempts e ≡ true → j ≡ k → ⊥))

on_self : (k j : ℕ) → j ≡ k → (k == j) ≡ true
on_self k j e = eq-eqb k j (sym e)

lost_ran : (set : Setup) (j k : ℕ) (item : Item) (a : Status) → pin_ok item a ≡ true → fate set j item a ≡ Running k → (a ≡ Running k) × (j ≡ k → ⊥)
lost_ran set j k (Item.Plain e) a pin h = go (runs_on j a) refl h
  where
    go : (b : Bool) → runs_on j a ≡ b → elim b [ true ↦ recovered set (Item.Plain e) | false ↦ a ] ≡ Running k → (a ≡ Running k) × (j ≡ k → ⊥)
    go true b h' = absurd (recovered_not set (Item.Plain e) k h')
    go false b h' = (h', λ same. true≢false (sym (ap (runs_on j) h' ∙ on_self k j same) ∙ b))
lost_ran set j k (Item.Batch es) a pin h = go (runs_on j a) refl h
  where
    go : (b : Bool) → runs_on j a ≡ b → elim b [ true ↦ recovered set (Item.Batch es) | false ↦ a ] ≡ Running k → (a ≡ Running k) × (j ≡ k → ⊥)
    go true b h' = absurd (recovered_not set (Item.Batch es) k h')
    go false b h' = (h', λ same. true≢false (sym (ap (runs_on j) h' ∙ on_self k j same) ∙ b))
lost_ran set j k (Item.Pinned p e) (Done v) pin h = absurd (done_not h)
lost_ran set j k (Item.Pinned p e) Dropped pin h = absurd (drop_not h)
lost_ran set j k (Item.Pinned p e) Waiting pin h = go (p == j) h
  where
    go : (b : Bool) → elim b [ true ↦ Done (failed set.names) | false ↦ Waiting ] ≡ Running k → (Waiting ≡ Running k) × (j ≡ k → ⊥)
    go true h' = absurd (done_not h')
    go false h' = absurd (waits_not h')
lost_ran set j k (Item.Pinned p e) (Running i) pin h = go (p == j) refl h
  where
    go : (b : Bool) → (p == j) ≡ b → elim b [ true ↦ Done (failed set.names) | false ↦ Running i ] ≡ Running k → (Running i ≡ Running k) × (j ≡ k → ⊥)
    go true b h' = absurd (done_not h')
    go false b h' = (h', λ same. apart p j b (eqb-true p i pin ∙ (same_number h' ∙ sym same)))

record Doers (c : Core) : Type 0 where
  master : Kernel
  placed : nth c.kernels 0 ≡ Some master
  runners : (m k : ℕ) → status_in (nth c.items m) ≡ Some (Running k) → attempt_of c k ≡ Some (suc m)
  idle : (k : ℕ) → lives c (suc k) ≡ false → attempt_of c (suc k) ≡ None

before_entry : (set : Setup) (c : Core) (h : Handed) (j k : ℕ) (e : Event) (m : ℕ) (q : Queued) → Doers c → permitted set c h j e ≡ true → nth c.items m ≡ Some q → pin_ok q.item q.status ≡ true
    → status_after set c.wait j e (suc m) q.item q.status ≡ Running k → Ran j k e m q.status
before_entry set c h j k (Event.Take i) m q doers ok at pin s = go (i == suc m) refl s
  where
    go : (b : Bool) → (i == suc m) ≡ b → elim b [ true ↦ Running j | false ↦ q.status ] ≡ Running k → Ran j k (Event.Take i) m q.status
    go true b s' = inl (ap Event.Take (eqb-true i (suc m) b), same_number s')
    go false b s' =
        inr (
          s',
          λ _ same.
              true≢false (sym (ap is_some (doers.runners m k (ap status_in at ∙ ap Some s'))) ∙ (ap (has_attempt c) (sym same) ∙ is_not (has_attempt c j) (both _ _ (both _ _ (both _ _ ok).0).0).1)),
        )
before_entry set c h j k (Event.Deliver i v) m q doers ok at pin s = go (i == suc m) refl s
  where
    go : (b : Bool) → (i == suc m) ≡ b → elim b [ true ↦ delivered v q.status | false ↦ q.status ] ≡ Running k → Ran j k (Event.Deliver i v) m q.status
    go true b s' = absurd (delivered_not v q.status k s')
    go false b s' =
        inr (
          s',
          λ _ same.
              apart i (suc m) b
              (eqb-true i (suc m) (subst (λ o. is_id i o ≡ true) (ap (attempt_of c) same ∙ doers.runners m k (ap status_in at ∙ ap Some s')) (both _ _ (both _ _ ok).0).0)),
        )
before_entry set c h j k (Event.Lose cause) m q doers ok at pin s = let t = lost_ran set j k q.item q.status pin s in inr (t.0, λ _. t.1)
before_entry set c h j k Event.Resume m q doers ok at pin s = go (drops c.wait (suc m)) s
  where
    go : (b : Bool) → elim b [ true ↦ dropped q.status | false ↦ q.status ] ≡ Running k → Ran j k Event.Resume m q.status
    go true s' = absurd (dropped_not q.status k s')
    go false s' = inr (s', λ t. absurd (true≢false (sym t)))
before_entry set c h j k (Event.Submit i) m q doers ok at pin s = inr (s, λ t. absurd (true≢false (sym t)))
before_entry set c h j k (Event.Yield w) m q doers ok at pin s = inr (s, λ t. absurd (true≢false (sym t)))
before_entry set c h j k (Event.Access f r) m q doers ok at pin s = inr (s, λ t. absurd (true≢false (sym t)))
before_entry set c h j k (Event.Ask n) m q doers ok at pin s = inr (s, λ t. absurd (true≢false (sym t)))
before_entry set c h j k (Event.Print x) m q doers ok at pin s = inr (s, λ t. absurd (true≢false (sym t)))
before_entry set c h j k (Event.Enter ls) m q doers ok at pin s = inr (s, λ t. absurd (true≢false (sym t)))
before_entry set c h j k Event.Leave m q doers ok at pin s = inr (s, λ t. absurd (true≢false (sym t)))
before_entry set c h j k Event.Close m q doers ok at pin s = inr (s, λ t. absurd (true≢false (sym t)))

-- an item that was not there does not run
new_waits : (m : ℕ) (qs : List Queued) (x : Queued) (k : ℕ) → x.status ≡ Waiting → nth qs m ≡ None → status_in (nth (qs ++ x ∷ []) m) ≡ Some (Running k) → ⊥
new_waits zero [] x k w none e = waits_not (sym w ∙ some_is e)
new_waits (suc m) [] x k w none e = none≢some e
new_waits zero (q ∷ qs) x k w none e = none≢some (sym none)
new_waits (suc m) (q ∷ qs) x k w none e = new_waits m qs x k w none e

not_there : (set : Setup) (c : Core) (j : ℕ) (e : Event) (m k : ℕ) → nth c.items m ≡ None → status_in (nth (each_from 1 (queued_after set c.wait j e) c.items) m) ≡ Some (Running k) → ⊥
not_there set c j e m k none s =
    none≢some (sym (ap status_in (each_nth 1 m (queued_after set c.wait j e) c.items ∙ ap (λ o. elim o [ None ↦ None | Some x ↦ Some (queued_after set c.wait j e (1 + m) x) ]) none)) ∙ s)

none_runs : (set : Setup) (c : Core) (h : Handed) (j : ℕ) (e : Event) (m k : ℕ) → nth c.items m ≡ None → status_in (nth (items_after set c h j e) m) ≡ Some (Running k) → ⊥
none_runs set c (Handed.Given item b) j (Event.Submit i) m k none s = new_waits m c.items _ k refl none s
none_runs set c Handed.Nothing j (Event.Submit i) m k none s = none≢some (sym (ap status_in none) ∙ s)
none_runs set c (Handed.Lent d) j (Event.Submit i) m k none s = none≢some (sym (ap status_in none) ∙ s)
none_runs set c (Handed.Held vs) j (Event.Submit i) m k none s = none≢some (sym (ap status_in none) ∙ s)
none_runs set c h j (Event.Yield w) m k none s = not_there set c j (Event.Yield w) m k none s
none_runs set c h j Event.Resume m k none s = not_there set c j Event.Resume m k none s
none_runs set c h j (Event.Take i) m k none s = not_there set c j (Event.Take i) m k none s
none_runs set c h j (Event.Access f r) m k none s = not_there set c j (Event.Access f r) m k none s
none_runs set c h j (Event.Ask n) m k none s = not_there set c j (Event.Ask n) m k none s
none_runs set c h j (Event.Print x) m k none s = not_there set c j (Event.Print x) m k none s
none_runs set c h j (Event.Enter ls) m k none s = not_there set c j (Event.Enter ls) m k none s
none_runs set c h j Event.Leave m k none s = not_there set c j Event.Leave m k none s
none_runs set c h j (Event.Deliver i v) m k none s = not_there set c j (Event.Deliver i v) m k none s
none_runs set c h j (Event.Lose cause) m k none s = not_there set c j (Event.Lose cause) m k none s
none_runs set c h j Event.Close m k none s = not_there set c j Event.Close m k none s

-- who takes an item has a row
taker : (c : Core) → Doers c → (j : ℕ) → (lives c (suc j) ≡ true) → (x : Kernel) × (nth c.kernels (suc j) ≡ Some x)
taker c doers j l = go (nth c.kernels (suc j)) refl
  where
    go : (o : Option Kernel) → nth c.kernels (suc j) ≡ o → (x : Kernel) × (nth c.kernels (suc j) ≡ Some x)
    go None at = absurd (true≢false (sym l ∙ ap (λ o. elim o [ None ↦ false | Some x ↦ x.lives ]) at))
    go (Some x) at = (x, at)

row_of : (set : Setup) (c : Core) (h : Handed) (j i : ℕ) → Doers c → permitted set c h j (Event.Take i) ≡ true → (x : Kernel) × (nth c.kernels j ≡ Some x)
row_of set c h zero i doers ok = (doers.master, doers.placed)
row_of set c h (suc j) i doers ok = taker c doers j (both _ _ (both _ _ ok).0).1

-- the attempt of a kernel that this entry leaves alone
kept_attempt : (c : Core) (j k : ℕ) (e : Event) → (attempts e ≡ true → j ≡ k → ⊥) → attempt_in (nth (change_at j (kernel_after e) c.kernels) k) ≡ attempt_of c k
kept_attempt c j k e ne = go (j == k) refl (nth c.kernels k) refl
  where
    quiet : (b : Bool) → attempts e ≡ b → j ≡ k → attempts e ≡ false
    quiet true a same = absurd (ne a same)
    quiet false a same = a

    go : (b : Bool) → (j == k) ≡ b → (o : Option Kernel) → nth c.kernels k ≡ o → attempt_in (nth (change_at j (kernel_after e) c.kernels) k) ≡ attempt_of c k
    go false b o at = ap attempt_in (change_other j k (kernel_after e) c.kernels (apart j k b))
    go true b None at = ap attempt_in (subst (λ n. nth (change_at n (kernel_after e) c.kernels) k ≡ None) (sym (eqb-true j k b)) (past k (kernel_after e) c.kernels at)) ∙ sym (ap attempt_in at)
    go true b (Some x) at =
        ap attempt_in (subst (λ n. nth (change_at n (kernel_after e) c.kernels) k ≡ Some (kernel_after e x)) (sym (eqb-true j k b)) (change_same k (kernel_after e) c.kernels x at))
        ∙ (own_attempt e x (quiet (attempts e) refl (eqb-true j k b)) ∙ sym (ap attempt_in at))

-- a row that does not live has no attempt, before and so after
idle_row : (set : Setup) (c : Core) (h : Handed) (k : ℕ) (e : Event) (x : Kernel) → permitted set c h (suc k) e ≡ true → nth c.kernels (suc k) ≡ Some x → (x.lives ≡ false → x.attempt ≡ None)
    → (kernel_after e x).lives ≡ false → (kernel_after e x).attempt ≡ None
idle_row set c h k (Event.Take i) x ok at was dead = absurd (true≢false (sym (both _ _ (both _ _ ok).0).1 ∙ (ap (λ o. elim o [ None ↦ false | Some y ↦ y.lives ]) at ∙ dead)))
idle_row set c h k (Event.Deliver i v) x ok at was dead = refl
idle_row set c h k (Event.Lose cause) x ok at was dead = refl
idle_row set c h k (Event.Submit i) x ok at was dead = was dead
idle_row set c h k (Event.Yield w) x ok at was dead = was dead
idle_row set c h k Event.Resume x ok at was dead = was dead
idle_row set c h k (Event.Access f r) x ok at was dead = was dead
idle_row set c h k (Event.Ask n) x ok at was dead = was dead
idle_row set c h k (Event.Print t) x ok at was dead = was dead
idle_row set c h k (Event.Enter ls) x ok at was dead = was dead
idle_row set c h k Event.Leave x ok at was dead = was dead
idle_row set c h k Event.Close x ok at was dead = was dead

doers_after : (set : Setup) (c : Core) (p : Posted) → Agrees c → Doers c → allowed set c p ≡ true → Doers (effect set c p)
doers_after set c p agrees doers ok =
    record { master = master_after.0; placed = master_after.1; runners = λ m k s. runs m k s; idle = λ k dead. idles k dead }
  where
    permits : permitted set c p.handed p.entry.kernel p.entry.event ≡ true
    permits = (both (not c.closed && _) (permitted set c p.handed p.entry.kernel p.entry.event) ok).1

    master_after : (x : Kernel) × (nth (change_at p.entry.kernel (kernel_after p.entry.event) c.kernels) 0 ≡ Some x)
    master_after = go (p.entry.kernel == 0) refl
      where
        go : (b : Bool) → (p.entry.kernel == 0) ≡ b → (x : Kernel) × (nth (change_at p.entry.kernel (kernel_after p.entry.event) c.kernels) 0 ≡ Some x)
        go true b = (
          kernel_after p.entry.event doers.master,
          subst (λ n. nth (change_at n (kernel_after p.entry.event) c.kernels) 0 ≡ Some (kernel_after p.entry.event doers.master)) (sym (eqb-true p.entry.kernel 0 b))
              (change_same 0 (kernel_after p.entry.event) c.kernels doers.master doers.placed),
        )
        go false b = (doers.master, change_other p.entry.kernel 0 (kernel_after p.entry.event) c.kernels (apart p.entry.kernel 0 b) ∙ doers.placed)

    by_cases : (m k : ℕ) (q : Queued) → nth c.items m ≡ Some q → Ran p.entry.kernel k p.entry.event m q.status → attempt_of (effect set c p) k ≡ Some (suc m)
    by_cases m k q at (inl t) =
        let x = row_of set c p.handed p.entry.kernel (suc m) doers (subst (λ f. permitted set c p.handed p.entry.kernel f ≡ true) t.0 permits) in
        subst (λ n. attempt_in (nth (change_at p.entry.kernel (kernel_after p.entry.event) c.kernels) n) ≡ Some (suc m)) t.1
        (ap attempt_in (change_same p.entry.kernel (kernel_after p.entry.event) c.kernels x.0 x.1) ∙ ap (λ f. (kernel_after f x.0).attempt) t.0)
    by_cases m k q at (inr t) = kept_attempt c p.entry.kernel k p.entry.event t.1 ∙ doers.runners m k (ap status_in at ∙ ap Some t.0)

    runs : (m k : ℕ) → status_in (nth (items_after set c p.handed p.entry.kernel p.entry.event) m) ≡ Some (Running k) → attempt_of (effect set c p) k ≡ Some (suc m)
    runs m k s = go (nth c.items m) refl
      where
        go : (o : Option Queued) → nth c.items m ≡ o → attempt_of (effect set c p) k ≡ Some (suc m)
        go None at = absurd (none_runs set c p.handed p.entry.kernel p.entry.event m k at s)
        go (Some q) at =
            by_cases m k q at
            (before_entry set c p.handed p.entry.kernel k p.entry.event m q doers permits at (subst (λ o. pin_in o ≡ true) at (agrees.pins m))
            (some_is (sym (after_entry set c p.handed p.entry.kernel p.entry.event m q at) ∙ s)))

    idles : (k : ℕ) → elim (nth (change_at p.entry.kernel (kernel_after p.entry.event) c.kernels) (suc k)) [ None ↦ false | Some x ↦ x.lives ] ≡ false
        → attempt_in (nth (change_at p.entry.kernel (kernel_after p.entry.event) c.kernels) (suc k)) ≡ None
    idles k dead = go (p.entry.kernel == suc k) refl (nth c.kernels (suc k)) refl
      where
        go : (b : Bool) → (p.entry.kernel == suc k) ≡ b → (o : Option Kernel) → nth c.kernels (suc k) ≡ o → attempt_in (nth (change_at p.entry.kernel (kernel_after p.entry.event) c.kernels) (suc k)) ≡ None
        go false b o at =
            let same = change_other p.entry.kernel (suc k) (kernel_after p.entry.event) c.kernels (apart p.entry.kernel (suc k) b) in
            ap attempt_in same ∙ doers.idle k (sym (ap (λ r. elim r [ None ↦ false | Some x ↦ x.lives ]) same) ∙ dead)
        go true b None at = ap attempt_in (subst (λ n. nth (change_at n (kernel_after p.entry.event) c.kernels) (suc k) ≡ None) (sym (eqb-true p.entry.kernel (suc k) b)) (past (suc k) (kernel_after p.entry.event) c.kernels at))
        go true b (Some x) at =
            let after = subst (λ n. nth (change_at n (kernel_after p.entry.event) c.kernels) (suc k) ≡ Some (kernel_after p.entry.event x)) (sym (eqb-true p.entry.kernel (suc k) b))
            (change_same (suc k) (kernel_after p.entry.event) c.kernels x at) in
            ap attempt_in after
            ∙ idle_row set c p.handed k p.entry.event x (subst (λ n. permitted set c p.handed n p.entry.event ≡ true) (eqb-true p.entry.kernel (suc k) b) permits) at
            (λ d. sym (ap attempt_in at) ∙ doers.idle k (ap (λ r. elim r [ None ↦ false | Some y ↦ y.lives ]) at ∙ d)) (sym (ap (λ r. elim r [ None ↦ false | Some y ↦ y.lives ]) after) ∙ dead)

doers_from : (set : Setup) (c z : Core) (ps : List Posted) → Agrees c → Doers c → replay_from set c ps ≡ Some z → Doers z
doers_from set c z [] agrees doers r = subst Doers (some_is r) doers
doers_from set c z (p ∷ ps) agrees doers r =
    let parts = split (allowed set c p) (replay_from set (effect set c p) ps) z r in
    doers_from set (effect set c p) z ps (agrees_after set c p agrees parts.0) (doers_after set c p agrees doers parts.0) parts.1

no_attempt : (n k : ℕ) → attempt_in (nth (replicate n (new_kernel true)) k) ≡ None
no_attempt zero k = refl
no_attempt (suc n) zero = refl
no_attempt (suc n) (suc k) = no_attempt n k

pub doers_agree : DoersAgree
doers_agree set ps c r =
    let d =
    doers_from set (start set) c ps (agrees_at_start set)
    (record { master = new_kernel false; placed = refl; runners = λ m k s. absurd (none≢some s); idle = λ k dead. no_attempt set.kernels k }) r in
    (λ id k s. by_id id k s d.runners, d.idle)
  where
    by_id : (id k : ℕ) → status_of c id ≡ Some (Running k) → ((m k : ℕ) → status_in (nth c.items m) ≡ Some (Running k) → attempt_of c k ≡ Some (suc m)) → attempt_of c k ≡ Some id
    by_id zero k s runners = absurd (none≢some s)
    by_id (suc m) k s runners = runners m k s
