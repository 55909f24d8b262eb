-- In a wait the locks of kernel 0 are those of the stand-in's attempt.
use Rattle.std.proofs.Common.{◌≡◌, refl, sym, ap, subst, ◌∙◌, ℕ, Bool, true, false, List, [], ◌∷◌, ◌++◌, Option, Some, None, true≢false, eqb-true}
use Rattle.std.specs.Prelude.{◌&&◌, not, ◌==◌}
use Rattle.semantics.specs.Definitions.{is_empty}
use Rattle.semantics.specs.Names.{Names}
use Rattle.semantics.specs.Program.{Request, Call}
use Rattle.journal.specs.Places.{nth, change_at, is_some}
use Rattle.journal.specs.Closure.{Bundle}
use Rattle.journal.specs.declared.event.Wait.{Wait}
use Rattle.journal.specs.declared.event.Event.{Event}
use Rattle.journal.specs.declared.item.Item.{Item}
use Rattle.journal.specs.Entry.{Posted, Handed}
use Rattle.journal.specs.Core.{Setup, Core, Kernel, new_kernel, start, attempt_of, holds_nothing, is_id, permitted, allowed, kernel_after, wait_after, effect, replay_from}
use Rattle.journal.specs.Follow.{Plan, Attempt, Wants, Delivers, Quits, Stuck, attempted, Phase, Free, At, Lost, View, stand_in_entry, watch, watch_from, first_view}
use Rattle.journal.specs.Run.{is_resume}
use Rattle.laws_journal.specs.Laws.{Ordered, wants, StandsIn}
use Rattle.laws_journal.specs.Views.{StretchByStretch, none_resumes, WaitLocksAgree}
use Rattle.laws_journal.proofs.Tables.{both, is_not, none≢some, some_is, opened, split, apart, change_other, change_same}
use Rattle.laws_journal.proofs.Forced.{Synced, waiting_evaluation, no_wait_now}
use Rattle.laws_journal.proofs.Seen.{Watched, watched, watch_both}
use Rattle.laws_journal.proofs.Insides.{holds_some, takes_some, attempt_moves}
use Rattle.laws_journal.proofs.StandIn.{placed, stand_in_enters}

-- ---- stretches

chosen : {A : Type 0} (b : Bool) (x y : Option A) → b ≡ true → elim b [ true ↦ x | false ↦ y ] ≡ x
chosen b x y e = ap (λ c. elim c [ true ↦ x | false ↦ y ]) e

replay_both : (set : Setup) (c z : Core) (ps more : List Posted) → replay_from set c ps ≡ Some z → replay_from set c (ps ++ more) ≡ replay_from set z more
replay_both set c z [] more r = ap (λ x. replay_from set x more) (some_is r)
replay_both set c z (p ∷ ps) more r =
    let parts = split (allowed set c p) (replay_from set (effect set c p) ps) z r in
    chosen (allowed set c p) (replay_from set (effect set c p) (ps ++ more)) None parts.0 ∙ replay_both set (effect set c p) z ps more parts.1

pub stretch_by_stretch : StretchByStretch
stretch_by_stretch = (λ set ps more c r. replay_both set (start set) c ps more r, λ set plan k ps more v r. watch_both set plan k first_view v ps more r)

-- ---- one entry of a wait

pub still_waits : (w : Option Wait) (e : Event) → is_some w ≡ true → is_resume e ≡ false → is_some (wait_after w e) ≡ true
still_waits w (Event.Yield v) h n = refl
still_waits w Event.Resume h n = absurd (true≢false n)
still_waits w _ h n = h

-- outside an attempt kernel 0 takes an item, or ends the wait
only_takes : (set : Setup) (c : Core) (h : Handed) (e : Event) → is_some c.wait ≡ true → attempt_of c 0 ≡ None → permitted set c h 0 e ≡ true → is_resume e ≡ false → (id : ℕ) × (e ≡ Event.Take id)
only_takes set c h (Event.Submit id) waits none ok n = absurd (no_wait_now c waits (both _ _ (both _ _ ok).0).0)
only_takes set c h (Event.Yield w) waits none ok n = absurd (no_wait_now c waits (both _ _ (both _ _ ok).0).0)
only_takes set c h Event.Resume waits none ok n = absurd (true≢false n)
only_takes set c h (Event.Take id) waits none ok n = (id, refl)
only_takes set c h (Event.Access f r) waits none ok n = absurd (true≢false (sym (both _ _ ok).0 ∙ ap is_some none))
only_takes set c h (Event.Ask m) waits none ok n = absurd (waiting_evaluation c waits none (both _ _ ok).0)
only_takes set c h (Event.Print t) waits none ok n = absurd (waiting_evaluation c waits none ok)
only_takes set c h (Event.Enter ls) waits none ok n = absurd (waiting_evaluation c waits none (both _ _ (both _ _ (both _ _ ok).0).0).0)
only_takes set c h Event.Leave waits none ok n = absurd (waiting_evaluation c waits none (both _ _ ok).0)
only_takes set c h (Event.Deliver id v) waits none ok n = absurd (true≢false (sym (both _ _ (both _ _ ok).0).0 ∙ ap (is_id id) none))
only_takes set c h (Event.Lose cause) waits none ok n = absurd (true≢false (sym ok))
only_takes set c h Event.Close waits none ok n = absurd (no_wait_now c waits ok)

abbrev attempt_in : Option Kernel → Option ℕ
attempt_in o = elim o [ None ↦ None | Some x ↦ x.attempt ]

-- `inside` says whether the master's section is open in the wait: then the locks are its own, and no attempt has any
abbrev pub Stands : Bool → Phase → Kernel → Type 0
Stands false x row = StandsIn x (holds_some row)
Stands true x row = (holds_some row ≡ true) × StandsIn x false

-- a row without locks
abbrev bare : Kernel
bare = new_kernel true

no_leave : (names : Names) (id : ℕ) (a : Attempt) (y : Phase) → Ordered false a → attempted names id a Event.Leave ≡ Some y → ⊥
no_leave names id (Wants (Call.Sends (Request.Access e)) f) y o q = none≢some q
no_leave names id (Wants (Call.Sends Request.Count) f) y o q = none≢some q
no_leave names id (Wants (Call.Sends (Request.Print t)) f) y o q = none≢some q
no_leave names id (Wants (Call.Sends (Request.Outside e)) f) y o q = none≢some q
no_leave names id (Wants (Call.Enter ls) f) y o q = none≢some q
no_leave names id (Wants Call.Leave f) y (wants may next) q = may
no_leave names id (Delivers v d) y o q = none≢some q
no_leave names id Quits y o q = none≢some q
no_leave names id Stuck y o q = none≢some q

-- an attempt beside locks of the master's
beside_locks : (set : Setup) (c : Core) (h : Handed) (items : List (Item × Bundle)) (id : ℕ) (a : Attempt) (y : Phase) (e : Event) (row : Kernel) → permitted set c h 0 e ≡ true → holds_nothing c 0 ≡ false
    → holds_some row ≡ true → Ordered false a → attempted set.names id a e ≡ Some y → Stands true y (kernel_after e row)
beside_locks set c h items id a y (Event.Enter ls) row ok held some o q = absurd (true≢false (sym (both _ _ (both _ _ ok).0).1 ∙ held))
beside_locks set c h items id a y Event.Leave row ok held some o q = absurd (no_leave set.names id a y o q)
beside_locks set c h items id a y (Event.Deliver i v) row ok held some o q = absurd (true≢false (sym (both _ _ ok).1 ∙ held))
beside_locks set c h items id a y (Event.Lose cause) row ok held some o q = absurd (true≢false (sym ok))
beside_locks set c h items id a y (Event.Submit i) row ok held some o q = (some, attempt_moves set 0 items (At id a) y (Event.Submit i) bare tt o q)
beside_locks set c h items id a y (Event.Yield w) row ok held some o q = (some, attempt_moves set 0 items (At id a) y (Event.Yield w) bare tt o q)
beside_locks set c h items id a y Event.Resume row ok held some o q = (some, attempt_moves set 0 items (At id a) y Event.Resume bare tt o q)
beside_locks set c h items id a y (Event.Take i) row ok held some o q = (some, attempt_moves set 0 items (At id a) y (Event.Take i) bare tt o q)
beside_locks set c h items id a y (Event.Access f r) row ok held some o q = (some, attempt_moves set 0 items (At id a) y (Event.Access f r) bare tt o q)
beside_locks set c h items id a y (Event.Ask n) row ok held some o q = (some, attempt_moves set 0 items (At id a) y (Event.Ask n) bare tt o q)
beside_locks set c h items id a y (Event.Print t) row ok held some o q = (some, attempt_moves set 0 items (At id a) y (Event.Print t) bare tt o q)
beside_locks set c h items id a y Event.Close row ok held some o q = (some, attempt_moves set 0 items (At id a) y Event.Close bare tt o q)

abbrev pub holding : Option Kernel → Bool
holding o = not (is_empty (elim o [ None ↦ [] | Some x ↦ x.locks ]))

-- the entry of kernel 0, as the stand-in's
stands_after : (set : Setup) (c : Core) (p : Posted) (v : View) (y : Phase) (row : Kernel) (inside : Bool) → allowed set c p ≡ true → permitted set c p.handed 0 p.entry.event ≡ true → is_some c.wait ≡ true
    → nth c.kernels 0 ≡ Some row → is_resume p.entry.event ≡ false → Synced v.phase row.attempt → Stands inside v.phase row → stand_in_entry set v v.phase p.entry.event ≡ Some y
    → Stands inside y (kernel_after p.entry.event row)
stands_after set c p v y row inside ok permits waits at n synced s q = go inside v.phase synced s q
  where
    same : attempt_of c 0 ≡ row.attempt
    same = ap attempt_in at

    go : (i : Bool) (x : Phase) → Synced x row.attempt → Stands i x row → stand_in_entry set v x p.entry.event ≡ Some y → Stands i y (kernel_after p.entry.event row)
    go false (Free d) none s' q' =
        let t = only_takes set c p.handed p.entry.event waits (same ∙ none) permits n in
        subst (λ e. StandsIn y (holds_some (kernel_after e row))) (sym t.1)
        (attempt_moves set 0 v.items (Free d) y (Event.Take t.0) row tt s' (subst (λ e. stand_in_entry set v (Free d) e ≡ Some y) t.1 q'))
    go false (At id a) runs s' q' = attempt_moves set 0 v.items (At id a) y p.entry.event row (takes_some set c p ok) s' q'
    go true (Free d) none s' q' =
        let t = only_takes set c p.handed p.entry.event waits (same ∙ none) permits n in
        subst (λ e. Stands true y (kernel_after e row)) (sym t.1)
        (s'.0, attempt_moves set 0 v.items (Free d) y (Event.Take t.0) bare tt refl (subst (λ e. stand_in_entry set v (Free d) e ≡ Some y) t.1 q'))
    go true (At id a) runs s' q' =
        beside_locks set c p.handed v.items id a y p.entry.event row permits (is_not (holds_nothing c 0) (ap holding at ∙ s'.0)) s'.0 s'.1 q'
    go i Lost never s' q' = absurd never

-- a point of a wait
pub record Point (inside : Bool) (c : Core) (v : View) : Type 0 where
  pub waits : is_some c.wait ≡ true
  pub row : Kernel
  pub at : nth c.kernels 0 ≡ Some row
  pub synced : Synced v.phase row.attempt
  pub stands : Stands inside v.phase row

pub one_point : (set : Setup) (plan : Plan) (inside : Bool) (c : Core) (p : Posted) (v u : View) → allowed set c p ≡ true → is_resume p.entry.event ≡ false → watch set plan 0 v p ≡ Some u
    → Point inside c v → Point inside (effect set c p) u
one_point set plan inside c p v u ok n q here = go (p.entry.kernel == 0) refl
  where
    e : Event
    e = p.entry.event

    w : Watched set plan 0 v p u
    w = watched set plan 0 v p u q

    go : (b : Bool) → (p.entry.kernel == 0) ≡ b → Point inside (effect set c p) u
    go false b =
        let same : u.phase ≡ v.phase = ap (λ x. x.phase) (w.other b) in
        record {
          waits = still_waits c.wait e here.waits n;
          row = here.row;
          at = change_other p.entry.kernel 0 (kernel_after e) c.kernels (apart p.entry.kernel 0 b) ∙ here.at;
          synced = subst (λ x. Synced x here.row.attempt) (sym same) here.synced;
          stands = subst (λ x. Stands inside x here.row) (sym same) here.stands;
        }
    go true b =
        let zero' = eqb-true p.entry.kernel 0 b in
        let permits = subst (λ k. permitted set c p.handed k e ≡ true) zero' (both (not c.closed && _) (permitted set c p.handed p.entry.kernel e) ok).1 in
        let t = stand_in_enters set plan c p v u here.row ok here.at here.synced q in
        let after : nth (effect set c p).kernels 0 ≡ Some (kernel_after e here.row) =
        subst (λ j. nth (change_at j (kernel_after e) c.kernels) 0 ≡ Some (kernel_after e here.row)) (sym zero') (change_same 0 (kernel_after e) c.kernels here.row here.at) in
        record {
          waits = still_waits c.wait e here.waits n;
          row = kernel_after e here.row;
          at = after;
          synced = subst (λ x. Synced u.phase x.attempt) (some_is (sym t.1 ∙ after)) t.2;
          stands = stands_after set c p v u.phase here.row inside ok permits here.waits here.at n here.synced here.stands (w.own b).0;
        }

points : (set : Setup) (plan : Plan) (inside : Bool) (c z : Core) (ps : List Posted) (v w : View) → none_resumes ps ≡ true → Point inside c v → replay_from set c ps ≡ Some z → watch_from set plan 0 v ps ≡ Some w
    → Point inside z w
points set plan inside c z [] v w n here r q = subst (Point inside z) (some_is q) (subst (λ x. Point inside x v) (some_is r) here)
points set plan inside c z (p ∷ ps) v w n here r q =
    let parts = split (allowed set c p) (replay_from set (effect set c p) ps) z r in
    let t = opened (watch set plan 0 v p) (λ u. watch_from set plan 0 u ps) w q in
    let m = both (not (is_resume p.entry.event)) (none_resumes ps) n in
    points set plan inside (effect set c p) z ps t.0 w m.1 (one_point set plan inside c p v t.0 parts.0 (is_not (is_resume p.entry.event) m.0) t.1 here) parts.1 t.2

pub wait_locks_agree : WaitLocksAgree
wait_locks_agree set plan ps more c z v w r q waits stands none s t =
    let here = placed set plan ps c v r q in
    let from : Point false c v = record { waits = waits; row = here.row; at = here.at; synced = here.synced; stands = subst (λ o. StandsIn v.phase (holding o)) here.at stands } in
    let there = points set plan false c z more v w none from s t in
    (there.waits, subst (λ o. StandsIn w.phase (holding o)) (sym there.at) there.stands)
