-- The stand-in's phase in a journal is kernel 0's attempt in the core.
use Rattle.std.proofs.Common.{◌≡◌, refl, sym, ap, subst, ◌∙◌, ℕ, zero, suc, Bool, true, false, List, [], ◌∷◌, Option, Some, None, eqb-true}
use Rattle.std.specs.Prelude.{◌&&◌, not, ◌==◌, ◌≤◌}
use Rattle.journal.specs.Places.{nth, change_at, given}
use Rattle.journal.specs.declared.event.Event.{Event}
use Rattle.journal.specs.Entry.{Posted}
use Rattle.journal.specs.Core.{Setup, Core, Kernel, new_kernel, start, attempt_of, permitted, allowed, kernel_after, effect, replay_from}
use Rattle.journal.specs.Follow.{Plan, Phase, Free, At, Lost, View, stand_in_entry, with_handed, watch, watch_from, first_view, kernel_run}
use Rattle.laws_journal.specs.Laws.{Matches}
use Rattle.laws_journal.proofs.Tables.{both, some_is, split, apart, change_other, change_same, opened}
use Rattle.laws_journal.proofs.Forced.{Synced}
use Rattle.laws_journal.proofs.Unique.{attempt_after}
use Rattle.laws_journal.proofs.Views.{phase_is_attempt}

matched : (x : Phase) (o : Option ℕ) → Synced x o → Matches x o
matched (Free d) o h = h
matched (At id a) o h = h
matched Lost o h = absurd h

abbrev attempt_in : Option Kernel → Option ℕ
attempt_in o = elim o [ None ↦ None | Some x ↦ x.attempt ]

pub stand_in_enters : (set : Setup) (plan : Plan) (c : Core) (p : Posted) (v w : View) (row : Kernel) → allowed set c p ≡ true → nth c.kernels 0 ≡ Some row → Synced v.phase row.attempt → watch set plan 0 v p ≡ Some w
    → (row' : Kernel) × (nth (effect set c p).kernels 0 ≡ Some row') × Synced w.phase row'.attempt
stand_in_enters set plan c p v w row ok at s q = go (p.entry.kernel == 0) refl q
  where
    e : Event
    e = p.entry.event

    after : Phase → View
    after phase = record { items = with_handed p.entry.event p.handed v.items; own = suc v.own; phase = phase }

    go : (b : Bool) → (p.entry.kernel == 0) ≡ b
        → elim b [ false ↦ Some (record v { items = with_handed p.entry.event p.handed v.items }) | true ↦ given (stand_in_entry set v v.phase e) (λ phase. Some (after phase)) ] ≡ Some w
        → (row' : Kernel) × (nth (change_at p.entry.kernel (kernel_after e) c.kernels) 0 ≡ Some row') × Synced w.phase row'.attempt
    go false b q' = (row, change_other p.entry.kernel 0 (kernel_after e) c.kernels (apart p.entry.kernel 0 b) ∙ at, subst (λ z. Synced z.phase row.attempt) (some_is q') s)
    go true b q' =
        let t = opened (stand_in_entry set v v.phase e) (λ phase. Some (after phase)) w q' in
        let zero' = eqb-true p.entry.kernel 0 b in
        let permits = subst (λ k. permitted set c p.handed k e ≡ true) zero' (both (not c.closed && _) (permitted set c p.handed p.entry.kernel e) ok).1 in (
          kernel_after e row,
          subst (λ j. nth (change_at j (kernel_after e) c.kernels) 0 ≡ Some (kernel_after e row)) (sym zero') (change_same 0 (kernel_after e) c.kernels row at),
          subst (λ z. Synced z.phase (kernel_after e row).attempt) (some_is t.2) (attempt_after set c p.handed v v.phase t.0 e row permits s t.1),
        )

-- kernel 0 has a row, and in it the attempt of the stand-in's phase
pub record Placed (c : Core) (v : View) : Type 0 where
  pub row : Kernel
  pub at : nth c.kernels 0 ≡ Some row
  pub synced : Synced v.phase row.attempt

pub placed_from : (set : Setup) (plan : Plan) (c z : Core) (ps : List Posted) (v w : View) → Placed c v → replay_from set c ps ≡ Some z → watch_from set plan 0 v ps ≡ Some w → Placed z w
placed_from set plan c z [] v w here r q = subst (Placed z) (some_is q) (subst (λ x. Placed x v) (some_is r) here)
placed_from set plan c z (p ∷ ps) v w here r q =
    let parts = split (allowed set c p) (replay_from set (effect set c p) ps) z r in
    let t = opened (watch set plan 0 v p) (λ u. watch_from set plan 0 u ps) w q in
    let n = stand_in_enters set plan c p v t.0 here.row parts.0 here.at here.synced t.1 in
    placed_from set plan (effect set c p) z ps t.0 w (record { row = n.0; at = n.1; synced = n.2 }) parts.1 t.2

pub placed : (set : Setup) (plan : Plan) (ps : List Posted) (c : Core) (v : View) → replay_from set (start set) ps ≡ Some c → kernel_run set plan 0 ps ≡ Some v → Placed c v
placed set plan ps c v r q = placed_from set plan (start set) c ps first_view v (record { row = new_kernel false; at = refl; synced = refl }) r q

pub each_phase_is_attempt : (set : Setup) (plan : Plan) (k : ℕ) (ps : List Posted) (c : Core) (v : View) → k ≤ set.kernels
    → replay_from set (start set) ps ≡ Some c → kernel_run set plan k ps ≡ Some v → Matches v.phase (attempt_of c k)
each_phase_is_attempt set plan zero ps c v h r q =
    let here = placed set plan ps c v r q in
    matched v.phase (attempt_of c 0) (subst (Synced v.phase) (sym (ap attempt_in here.at)) here.synced)
each_phase_is_attempt set plan (suc k) ps c v h r q = phase_is_attempt set plan k ps c v h r q
