-- A kernel's phase in a journal is its attempt in the core.
use Rattle.std.proofs.Common.{◌≡◌, refl, sym, ap, subst, ◌∙◌, ℕ, zero, suc, Bool, true, false, List, [], ◌∷◌, Option, Some, None, eqb-true, arith}
use Rattle.std.specs.Prelude.{not, ◌==◌, ◌≤◌, replicate}
use Rattle.semantics.specs.Program.{Request, Call}
use Rattle.semantics.specs.Play.{Reply}
use Rattle.journal.specs.Places.{nth, change_at, given}
use Rattle.journal.specs.Closure.{Bundle}
use Rattle.journal.specs.declared.loss.Loss.{Loss}
use Rattle.journal.specs.declared.event.Event.{Event}
use Rattle.journal.specs.declared.item.Item.{Item}
use Rattle.journal.specs.Entry.{Posted}
use Rattle.journal.specs.Core.{Setup, Core, Kernel, new_kernel, start, attempt_of, allowed, kernel_after, effect, replay_from}
use Rattle.journal.specs.Follow.{Plan, Wants, Delivers, Quits, Phase, Free, At, Lost, View, heard, item_of, moved, is_lost, is_planned, or_planned, own_entry, with_handed, watch, watch_from, first_view, kernel_run}
use Rattle.laws_journal.specs.Laws.{Matches}
use Rattle.laws_journal.proofs.Tables.{none≢some, some_is, split, apart, change_other, change_same, opened, when_some}

-- an entry that is no loss
attempt_moves : (set : Setup) (k : ℕ) (items : List (Item × Bundle)) (x y : Phase) (e : Event) (row : Kernel)
    → Matches x row.attempt → moved set k items x e ≡ Some y → Matches y (kernel_after e row).attempt
attempt_moves set k items (Free d) y (Event.Take id) row s q =
    let t = opened (item_of items id) (λ i. Some (At id _)) y q in
    subst (λ z. Matches z (Some id)) (some_is t.2) refl
attempt_moves set k items (At id (Wants call f)) y e row s q =
    let t = opened (heard set.names call e) (λ reply. Some (At id (f reply))) y q in
    subst (λ z. Matches z (kernel_after e row).attempt) (some_is t.2) (same call e t.0 t.1)
  where
    same : (c' : Call) (e' : Event) (r : Reply) → heard set.names c' e' ≡ Some r → (kernel_after e' row).attempt ≡ Some id
    same (Call.Sends (Request.Access f')) (Event.Access g r') r h' = s
    same (Call.Sends Request.Count) (Event.Ask n) r h' = s
    same (Call.Sends (Request.Print t)) (Event.Print u) r h' = s
    same (Call.Enter ls) (Event.Enter ms) r h' = s
    same Call.Leave Event.Leave r h' = s
    same _ _ r h' = absurd (none≢some h')
attempt_moves set k items (At id (Delivers w d)) y (Event.Deliver i u) row s q = subst (λ z. Matches z None) (some_is (when_some _ _ y q).1) refl
attempt_moves set k items (At id Quits) y (Event.Lose Loss.Quit) row s q = subst (λ z. Matches z None) (some_is q) refl
attempt_moves set k items (At id _) y _ row s q = absurd (none≢some q)
attempt_moves set k items (Free d) y _ row s q = absurd (none≢some q)
attempt_moves set k items Lost y _ row s q = absurd (none≢some q)

planned_moves : (set : Setup) (k : ℕ) (items : List (Item × Bundle)) (x y : Phase) (b : Bool) (e : Event) (row : Kernel)
    → Matches x row.attempt → or_planned b e (moved set k items x e) ≡ Some y → Matches y (kernel_after e row).attempt
planned_moves set k items x y true (Event.Lose Loss.Plan) row s q = subst (λ z. Matches z None) (some_is q) refl
planned_moves set k items x y true _ row s q = absurd (none≢some q)
planned_moves set k items x y false e row s q = attempt_moves set k items x y e row s q

own_moves : (set : Setup) (plan : Plan) (k : ℕ) (v : View) (y : Phase) (e : Event) (row : Kernel) → Matches v.phase row.attempt → own_entry set plan k v e ≡ Some y → Matches y (kernel_after e row).attempt
own_moves set plan k v y (Event.Lose Loss.NotStarted) row s q = subst (λ z. Matches z None) (some_is (when_some _ _ y q).1) refl
own_moves set plan k v y e row s q = planned_moves set k v.items v.phase y (is_planned plan k (suc v.own)) e row s (when_some (not (is_lost v.phase)) _ y q).1

abbrev attempt_in : Option Kernel → Option ℕ
attempt_in o = elim o [ None ↦ None | Some x ↦ x.attempt ]

-- one entry; the kernel has a row
one_entry : (set : Setup) (plan : Plan) (k : ℕ) (c : Core) (p : Posted) (v w : View) (row : Kernel) → nth c.kernels (suc k) ≡ Some row → Matches v.phase row.attempt → watch set plan (suc k) v p ≡ Some w
    → (row' : Kernel) × (nth (effect set c p).kernels (suc k) ≡ Some row') × Matches w.phase row'.attempt
one_entry set plan k c p v w row at s q = go (p.entry.kernel == suc k) refl q
  where
    e : Event
    e = p.entry.event

    after : Phase → View
    after phase = record { items = with_handed p.entry.event p.handed v.items; own = suc v.own; phase = phase }

    go : (b : Bool) → (p.entry.kernel == suc k) ≡ b
        → elim b [ false ↦ Some (record v { items = with_handed p.entry.event p.handed v.items }) | true ↦ given (own_entry set plan (suc k) v e) (λ phase. Some (after phase)) ] ≡ Some w
        → (row' : Kernel) × (nth (change_at p.entry.kernel (kernel_after e) c.kernels) (suc k) ≡ Some row') × Matches w.phase row'.attempt
    go false b q' = (row, change_other p.entry.kernel (suc k) (kernel_after e) c.kernels (apart p.entry.kernel (suc k) b) ∙ at, subst (λ z. Matches z.phase row.attempt) (some_is q') s)
    go true b q' =
        let t = opened (own_entry set plan (suc k) v e) (λ phase. Some (after phase)) w q' in (
          kernel_after e row,
          subst (λ j. nth (change_at j (kernel_after e) c.kernels) (suc k) ≡ Some (kernel_after e row)) (sym (eqb-true p.entry.kernel (suc k) b)) (change_same (suc k) (kernel_after e) c.kernels row at),
          subst (λ z. Matches z.phase (kernel_after e row).attempt) (some_is t.2) (own_moves set plan (suc k) v t.0 e row s t.1),
        )

all_entries : (set : Setup) (plan : Plan) (k : ℕ) (c z : Core) (ps : List Posted) (v w : View) (row : Kernel) → nth c.kernels (suc k) ≡ Some row → Matches v.phase row.attempt
    → replay_from set c ps ≡ Some z → watch_from set plan (suc k) v ps ≡ Some w → Matches w.phase (attempt_of z (suc k))
all_entries set plan k c z [] v w row at s r q =
    subst (λ y. Matches y.phase (attempt_of z (suc k))) (some_is q) (subst (λ x. Matches v.phase (attempt_of x (suc k))) (some_is r) (subst (Matches v.phase) (sym (ap attempt_in at)) s))
all_entries set plan k c z (p ∷ ps) v w row at s r q =
    let parts = split (allowed set c p) (replay_from set (effect set c p) ps) z r in
    let t = opened (watch set plan (suc k) v p) (λ u. watch_from set plan (suc k) u ps) w q in
    let n = one_entry set plan k c p v t.0 row at s t.1 in
    all_entries set plan k (effect set c p) z ps t.0 w n.0 n.1 n.2 parts.1 t.2

pub a_row : (n k : ℕ) → suc k ≤ n → nth (replicate n (new_kernel true)) k ≡ Some (new_kernel true)
a_row zero k h = absurd (omega arith)
a_row (suc n) zero h = refl
a_row (suc n) (suc k) h = a_row n k (omega arith)

pub phase_is_attempt : (set : Setup) (plan : Plan) (k : ℕ) (ps : List Posted) (c : Core) (v : View) → suc k ≤ set.kernels
    → replay_from set (start set) ps ≡ Some c → kernel_run set plan (suc k) ps ≡ Some v → Matches v.phase (attempt_of c (suc k))
phase_is_attempt set plan k ps c v h r q = all_entries set plan k (start set) c ps first_view v (new_kernel true) (a_row set.kernels k h) refl r q
