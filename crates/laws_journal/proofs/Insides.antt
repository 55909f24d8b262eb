-- What a kernel wants is what the core says of its section.
use Rattle.std.proofs.Common.{◌≡◌, refl, sym, subst, ◌∙◌, ℕ, zero, suc, Bool, true, false, List, [], ◌∷◌, Option, Some, None, T, is_some, eqb-true}
use Rattle.std.specs.Prelude.{not, ◌==◌, ◌≤◌}
use Rattle.expr_tree.specs.declared.sym.Sym.{Sym}
use Rattle.expr_tree.specs.Tree.{Tree}
use Rattle.semantics.specs.Definitions.{Definitions, is_empty}
use Rattle.semantics.specs.Program.{Mode, Request, Call}
use Rattle.semantics.specs.Play.{State, End, Reply, Play, Over, Calls, whole}
use Rattle.semantics.specs.Ends.{shown_end}
use Rattle.semantics.specs.Opened.{opens}
use Rattle.journal.specs.Places.{nth, change_at, given}
use Rattle.journal.specs.Closure.{Bundle, install}
use Rattle.journal.specs.declared.loss.Loss.{Loss}
use Rattle.journal.specs.declared.event.Event.{Event}
use Rattle.journal.specs.declared.item.Item.{Item}
use Rattle.journal.specs.Entry.{Posted}
use Rattle.journal.specs.Core.{Setup, Core, in_mode, null, Kernel, new_kernel, start, locks_of, permitted, allowed, kernel_after, effect, replay_from}
use Rattle.journal.specs.Follow.{Plan, Attempt, Wants, Delivers, Quits, attempt_of, after_quit, showing, valued, evaluated, applications, attempt, Phase, Free, At, Lost, View, heard, item_of, moved, is_lost, is_planned, or_planned, own_entry, with_handed, watch, watch_from, first_view, kernel_run}
use Rattle.laws_journal.specs.Laws.{Ordered, wants, delivers, quits, stuck, StandsIn}
use Rattle.laws_journal.proofs.Tables.{both, none≢some, some_is, split, apart, is_not, change_other, change_same, opened, when_some}
use Rattle.laws_journal.proofs.Tidy.{Tidy, ended, called, whole-tidy}
use Rattle.laws_journal.proofs.Views.{a_row}

-- ---- attempts

abbrev GoesOn : (Tree → Definitions → Attempt) → Type 0
GoesOn go = (v : Tree) (d : Definitions) → Ordered false (go v d)

after_quit-ordered : (k : ℕ) (section : Option (List Sym)) (go : Attempt) (now : Bool) → elim section [ None ↦ false | Some ls ↦ true ] ≡ now → Ordered false go → Ordered now (after_quit k section go)
after_quit-ordered zero None go now e h = subst (λ b. Ordered b go) e h
after_quit-ordered zero (Some ls) go now e h = wants (subst T e tt) (λ v. h)
after_quit-ordered (suc k) section go now e h = quits

-- what is shown is delivered outside
shown-ordered : (set : Setup) (go : Tree → Definitions → Attempt) → GoesOn go → (now : Bool) (o : End) (s : State) → now ≡ false → Ordered now (showing set go o s)
shown-ordered set go next now o s h = subst (λ b. Ordered b (showing set go o s)) (sym h) (next (shown_end set.names set.limits o) s.definitions)

attempt_of-ordered : (set : Setup) (k : ℕ) (go : Tree → Definitions → Attempt) → GoesOn go → (now : Bool) (p : Play) → Tidy false false now p → Ordered now (attempt_of p (valued set k go))
attempt_of-ordered set k go next now (Over (End.Value v) s) (ended e h) = shown-ordered set go next now (End.Value v) s h
attempt_of-ordered set k go next now (Over (End.Stopped c) s) (ended e h) = shown-ordered set go next now (End.Stopped c) s h
attempt_of-ordered set k go next now (Over (End.Throwing v) s) (ended e h) = absurd h.0
attempt_of-ordered set k go next now (Over (End.Thrown v) s) (ended e h) = shown-ordered set go next now (End.Thrown v) s h
attempt_of-ordered set k go next now (Over End.Quit s) (ended e h) = after_quit-ordered k s.open_section (showing set go End.Quit s) now (quit_open s.open_section ∙ e) (shown-ordered set go next false End.Quit s refl)
  where
    quit_open : (o : Option (List Sym)) → elim o [ None ↦ false | Some ls ↦ true ] ≡ is_some o
    quit_open None = refl
    quit_open (Some ls) = refl
attempt_of-ordered set k go next now (Over End.Closed s) (ended e h) = stuck
attempt_of-ordered set k go next now (Over End.Starved s) (ended e h) = stuck
attempt_of-ordered set k go next now (Calls c s f) (called e may g) = wants may (λ v. attempt_of-ordered set k go next _ (f (Reply.Replied v) s.definitions) (g v s.definitions))

evaluated-ordered : (set : Setup) (k : ℕ) (d : Definitions) (e : Tree) (go : Tree → Definitions → Attempt) → GoesOn go → Ordered false (evaluated set k d e go)
evaluated-ordered set k d e go next = attempt_of-ordered set k go next false (whole (in_mode set Mode.Item k) d e) (whole-tidy (in_mode set Mode.Item k) d e)

applications-ordered : (set : Setup) (k : ℕ) (es : List Tree) (d : Definitions) (done : List Tree) → Ordered false (applications set k es d done)
applications-ordered set k [] d done = delivers
applications-ordered set k (e ∷ es) d done = evaluated-ordered set k d e _ (λ v after. applications-ordered set k es after (v ∷ done))

pub attempts_ordered : (set : Setup) (k : ℕ) (item : Item) (d : Definitions) → Ordered false (attempt set k item d)
attempts_ordered set k (Item.Plain e) d = evaluated-ordered set k d e Delivers (λ v after. delivers)
attempts_ordered set k (Item.Pinned j e) d = evaluated-ordered set k d e Delivers (λ v after. delivers)
attempts_ordered set k (Item.Batch es) d = applications-ordered set k es d []

-- ---- a kernel in a journal

abbrev pub holds_some : Kernel → Bool
holds_some row = not (is_empty row.locks)

-- the locks that an entry takes are some
abbrev pub TakesSome : Event → Type 0
TakesSome (Event.Enter ls) = is_empty ls ≡ false
TakesSome _ = Unit {0}

pub takes_some : (set : Setup) (c : Core) (p : Posted) → allowed set c p ≡ true → TakesSome p.entry.event
takes_some set c p ok = go p.entry.event (both _ _ ok).1
  where
    go : (e : Event) → permitted set c p.handed p.entry.kernel e ≡ true → TakesSome e
    go (Event.Enter ls) permits = is_not (is_empty ls) (both _ _ (both _ _ (both _ _ permits).0).0).1
    go _ permits = tt

outside_at_end : {b : Bool} {v : Tree} {d : Definitions} → Ordered b (Delivers v d) → b ≡ false
outside_at_end delivers = refl

goes_on : {b : Bool} {c : Call} {f : Reply → Attempt} → Ordered b (Wants c f) → (v : Tree) → Ordered (opens c (Reply.Replied v) b) (f (Reply.Replied v))
goes_on (wants may next) = next

-- the entry that answers a call changes the locks as the call does
answered : (set : Setup) (call : Call) (f : Reply → Attempt) (e : Event) (row : Kernel) (r : Reply) → TakesSome e
    → ((v : Tree) → Ordered (opens call (Reply.Replied v) (holds_some row)) (f (Reply.Replied v))) → heard set.names call e ≡ Some r → Ordered (holds_some (kernel_after e row)) (f r)
answered set (Call.Sends (Request.Access x)) f (Event.Access y v) row r some next q =
    subst (λ z. Ordered (holds_some row) (f z)) (some_is (when_some _ _ r q).1) (next v)
answered set (Call.Sends Request.Count) f (Event.Ask n) row r some next q = subst (λ z. Ordered (holds_some row) (f z)) (some_is q) (next _)
answered set (Call.Sends (Request.Print t)) f (Event.Print u) row r some next q =
    subst (λ z. Ordered (holds_some row) (f z)) (some_is (when_some _ _ r q).1) (next _)
answered set (Call.Enter ls) f (Event.Enter ms) row r some next q =
    subst (λ z. Ordered (not (is_empty ms)) (f z)) (some_is (when_some _ _ r q).1) (subst (λ b. Ordered (not b) (f (Reply.Replied (null set.names)))) (sym some) (next (null set.names)))
answered set Call.Leave f Event.Leave row r some next q = subst (λ z. Ordered false (f z)) (some_is q) (next _)
answered set _ f _ row r some next q = absurd (none≢some q)

pub attempt_moves : (set : Setup) (k : ℕ) (items : List (Item × Bundle)) (x y : Phase) (e : Event) (row : Kernel) → TakesSome e
    → StandsIn x (holds_some row) → moved set k items x e ≡ Some y → StandsIn y (holds_some (kernel_after e row))
attempt_moves set k items (Free d) y (Event.Take id) row some s q =
    let t = opened (item_of items id) (λ i. Some (At id _)) y q in
    subst (λ z. StandsIn z (holds_some row)) (some_is t.2) (subst (λ b. Ordered b (attempt set k (t.0).0 (install set.names d (t.0).1))) (sym s) (attempts_ordered set k (t.0).0 (install set.names d (t.0).1)))
attempt_moves set k items (At id (Wants call f)) y e row some s q =
    let t = opened (heard set.names call e) (λ reply. Some (At id (f reply))) y q in
    subst (λ z. StandsIn z (holds_some (kernel_after e row))) (some_is t.2) (answered set call f e row t.0 some (goes_on s) t.1)
attempt_moves set k items (At id (Delivers w d)) y (Event.Deliver i u) row some s q =
    subst (λ z. StandsIn z (holds_some row)) (some_is (when_some _ _ y q).1) (outside_at_end s)
attempt_moves set k items (At id Quits) y (Event.Lose Loss.Quit) row some s q = subst (λ z. StandsIn z false) (some_is q) refl
attempt_moves set k items (At id _) y _ row some s q = absurd (none≢some q)
attempt_moves set k items (Free d) y _ row some s q = absurd (none≢some q)
attempt_moves set k items Lost y _ row some s q = absurd (none≢some q)

planned_moves : (set : Setup) (k : ℕ) (items : List (Item × Bundle)) (x y : Phase) (b : Bool) (e : Event) (row : Kernel) → TakesSome e
    → StandsIn x (holds_some row) → or_planned b e (moved set k items x e) ≡ Some y → StandsIn y (holds_some (kernel_after e row))
planned_moves set k items x y true (Event.Lose Loss.Plan) row some s q = subst (λ z. StandsIn z false) (some_is q) refl
planned_moves set k items x y true _ row some s q = absurd (none≢some q)
planned_moves set k items x y false e row some s q = attempt_moves set k items x y e row some s q

own_moves : (set : Setup) (plan : Plan) (k : ℕ) (v : View) (y : Phase) (e : Event) (row : Kernel) → TakesSome e
    → StandsIn v.phase (holds_some row) → own_entry set plan k v e ≡ Some y → StandsIn y (holds_some (kernel_after e row))
own_moves set plan k v y (Event.Lose Loss.NotStarted) row some s q = subst (λ z. StandsIn z false) (some_is (when_some _ _ y q).1) refl
own_moves set plan k v y e row some s q = planned_moves set k v.items v.phase y (is_planned plan k (suc v.own)) e row some s (when_some (not (is_lost v.phase)) _ y q).1

one_entry : (set : Setup) (plan : Plan) (k : ℕ) (c : Core) (p : Posted) (v w : View) (row : Kernel) → TakesSome p.entry.event
    → nth c.kernels (suc k) ≡ Some row → StandsIn v.phase (holds_some row) → watch set plan (suc k) v p ≡ Some w
    → (row' : Kernel) × (nth (effect set c p).kernels (suc k) ≡ Some row') × StandsIn w.phase (holds_some row')
one_entry set plan k c p v w row some at s q = go (p.entry.kernel == suc k) refl q
  where
    e : Event
    e = p.entry.event

    after : Phase → View
    after phase = record { items = with_handed p.entry.event p.handed v.items; own = suc v.own; phase = phase }

    go : (b : Bool) → (p.entry.kernel == suc k) ≡ b
        → elim b [ false ↦ Some (record v { items = with_handed p.entry.event p.handed v.items }) | true ↦ given (own_entry set plan (suc k) v e) (λ phase. Some (after phase)) ] ≡ Some w
        → (row' : Kernel) × (nth (change_at p.entry.kernel (kernel_after e) c.kernels) (suc k) ≡ Some row') × StandsIn w.phase (holds_some row')
    go false b q' = (row, change_other p.entry.kernel (suc k) (kernel_after e) c.kernels (apart p.entry.kernel (suc k) b) ∙ at, subst (λ z. StandsIn z.phase (holds_some row)) (some_is q') s)
    go true b q' =
        let t = opened (own_entry set plan (suc k) v e) (λ phase. Some (after phase)) w q' in (
          kernel_after e row,
          subst (λ j. nth (change_at j (kernel_after e) c.kernels) (suc k) ≡ Some (kernel_after e row)) (sym (eqb-true p.entry.kernel (suc k) b)) (change_same (suc k) (kernel_after e) c.kernels row at),
          subst (λ z. StandsIn z.phase (holds_some (kernel_after e row))) (some_is t.2) (own_moves set plan (suc k) v t.0 e row some s t.1),
        )

abbrev Agrees : Core → ℕ → View → Type 0
Agrees c k v = StandsIn v.phase (not (is_empty (locks_of c k)))

all_entries : (set : Setup) (plan : Plan) (k : ℕ) (c z : Core) (ps : List Posted) (v w : View) (row : Kernel) → nth c.kernels (suc k) ≡ Some row → StandsIn v.phase (holds_some row)
    → replay_from set c ps ≡ Some z → watch_from set plan (suc k) v ps ≡ Some w → Agrees z (suc k) w
all_entries set plan k c z [] v w row at s r q =
    subst (λ y. Agrees z (suc k) y) (some_is q) (subst (λ x. Agrees x (suc k) v) (some_is r) (subst (λ o. StandsIn v.phase (not (is_empty (elim o [ None ↦ [] | Some x ↦ x.locks ])))) (sym at) s))
all_entries set plan k c z (p ∷ ps) v w row at s r q =
    let parts = split (allowed set c p) (replay_from set (effect set c p) ps) z r in
    let t = opened (watch set plan (suc k) v p) (λ u. watch_from set plan (suc k) u ps) w q in
    let n = one_entry set plan k c p v t.0 row (takes_some set c p parts.0) at s t.1 in
    all_entries set plan k (effect set c p) z ps t.0 w n.0 n.1 n.2 parts.1 t.2

pub locks_agree : (set : Setup) (plan : Plan) (k : ℕ) (ps : List Posted) (c : Core) (v : View) → suc k ≤ set.kernels
    → replay_from set (start set) ps ≡ Some c → kernel_run set plan (suc k) ps ≡ Some v → Agrees c (suc k) v
locks_agree set plan k ps c v h r q = all_entries set plan k (start set) c ps first_view v (new_kernel true) (a_row set.kernels k h) refl r q
