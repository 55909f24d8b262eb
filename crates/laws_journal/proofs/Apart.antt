-- Sections that share a lock never overlap.
use Rattle.std.proofs.Common.{◌≡◌, refl, sym, subst, ◌∙◌, ℕ, zero, suc, ◌<◌, Bool, true, false, List, [], ◌∷◌, Option, Some, None, true≢false, eqb-true, arith, inl, inr}
use Rattle.std.specs.Prelude.{◌&&◌, not, ◌==◌, ◌⊎◌}
use Rattle.expr_tree.specs.declared.sym.Sym.{Sym}
use Rattle.expr_tree.specs.Order.{same_symbol}
use Rattle.expr_tree.specs.Substitution.{among}
use Rattle.semantics.specs.Definitions.{is_empty}
use Rattle.journal.specs.Places.{nth, change_at, is_some}
use Rattle.journal.specs.declared.event.Event.{Event}
use Rattle.journal.specs.Entry.{Posted, Handed}
use Rattle.journal.specs.Core.{Setup, Core, Kernel, start, locks_of, has_attempt, held_by_some, all_free, no_wait, in_evaluation, permitted, allowed, kernel_after, effect, replay_from}
use Rattle.journal.specs.Spans.{Span, ends_section, next_end, span_by, sections, Before, NeverOverlap}
use Rattle.laws_journal.proofs.Tables.{both, either, or_left, or_right, is_not, split, apart, same_symbol-eq, change_other, change_same}

abbrev locks_in : Option Kernel → List Sym
locks_in o = elim o [ None ↦ [] | Some x ↦ x.locks ]

-- ---- guards

permits : (set : Setup) (c : Core) (p : Posted) → allowed set c p ≡ true → permitted set c p.handed p.entry.kernel p.entry.event ≡ true
permits set c p ok = (both _ _ ok).1

held_somewhere : (ks : List Kernel) (k : ℕ) (l : Sym) → among l (locks_in (nth ks k)) ≡ true → held_by_some ks l ≡ true
held_somewhere [] k l h = absurd (true≢false (sym h))
held_somewhere (x ∷ xs) zero l h = or_left (among l x.locks) (held_by_some xs l) h
held_somewhere (x ∷ xs) (suc k) l h = or_right (among l x.locks) (held_by_some xs l) (held_somewhere xs k l h)

free_lock : (c : Core) (ls : List Sym) (l : Sym) → all_free c ls ≡ true → among l ls ≡ true → held_by_some c.kernels l ≡ false
free_lock c [] l free h = absurd (true≢false (sym h))
free_lock c (m ∷ ms) l free h =
    elim (either (same_symbol l m) (among l ms) h) [
      | inl e ↦ subst (λ s. held_by_some c.kernels s ≡ false) (sym (same_symbol-eq l m e)) (is_not _ (both (not (held_by_some c.kernels m)) _ free).0)
      | inr later ↦ free_lock c ms l (both _ _ free).1 later
    ]

-- a lock that is held is not entered
no_enter : (set : Setup) (c : Core) (h : Handed) (j k : ℕ) (ls : List Sym) (l : Sym)
    → permitted set c h j (Event.Enter ls) ≡ true → among l (locks_of c k) ≡ true → among l ls ≡ true → ⊥
no_enter set c h j k ls l ok held entered =
    let free = (both _ _ ok).1 in
    true≢false (sym (held_somewhere c.kernels k l held) ∙ free_lock c ls l free entered)

-- ---- what is held stays held

-- the locks of the kernel that posts, where the entry is no end of its section
own_locks : (set : Setup) (c : Core) (h : Handed) (k : ℕ) (e : Event) (l : Sym) (x : Kernel)
    → permitted set c h k e ≡ true → ends_section e ≡ false → nth c.kernels k ≡ Some x → among l x.locks ≡ true → among l (kernel_after e x).locks ≡ true
own_locks set c h k (Event.Submit id) l x ok going at held = held
own_locks set c h k (Event.Yield w) l x ok going at held = held
own_locks set c h k Event.Resume l x ok going at held = held
own_locks set c h k (Event.Take id) l x ok going at held = held
own_locks set c h k (Event.Access f r) l x ok going at held = held
own_locks set c h k (Event.Ask n) l x ok going at held = held
own_locks set c h k (Event.Print t) l x ok going at held = held
own_locks set c h k (Event.Enter ls) l x ok going at held =
    absurd (nothing x.locks (subst (λ o. is_empty (locks_in o) ≡ true) at (both _ _ (both _ _ ok).0).1) held)
  where
    nothing : (ms : List Sym) → is_empty ms ≡ true → among l ms ≡ true → ⊥
    nothing [] e h' = true≢false (sym h')
    nothing (m ∷ ms) e h' = true≢false (sym e)
own_locks set c h k Event.Leave l x ok going at held = absurd (true≢false going)
own_locks set c h k (Event.Deliver id v) l x ok going at held = held
own_locks set c h k (Event.Lose cause) l x ok going at held = absurd (true≢false going)
own_locks set c h k Event.Close l x ok going at held = held

keeps_held : (set : Setup) (c : Core) (p : Posted) (k : ℕ) (l : Sym)
    → allowed set c p ≡ true → ((p.entry.kernel == k) && ends_section p.entry.event) ≡ false → among l (locks_of c k) ≡ true → among l (locks_of (effect set c p) k) ≡ true
keeps_held set c p k l ok going held = go (p.entry.kernel == k) refl (nth c.kernels k) refl going
  where
    e : Event
    e = p.entry.event

    go : (b : Bool) → (p.entry.kernel == k) ≡ b → (o : Option Kernel) → nth c.kernels k ≡ o → (b && ends_section e) ≡ false
        → among l (locks_in (nth (change_at p.entry.kernel (kernel_after e) c.kernels) k)) ≡ true
    go false b o at going' = subst (λ q. among l (locks_in q) ≡ true) (sym (change_other p.entry.kernel k (kernel_after e) c.kernels (apart _ _ b))) held
    go true b None at going' = absurd (true≢false (sym (subst (λ q. among l (locks_in q) ≡ true) at held)))
    go true b (Some x) at going' =
        let same = eqb-true p.entry.kernel k b in
        let here : nth c.kernels p.entry.kernel ≡ Some x = subst (λ j. nth c.kernels j ≡ Some x) (sym same) at in
        let after = subst (λ j. nth (change_at p.entry.kernel (kernel_after e) c.kernels) j ≡ Some (kernel_after e x)) same (change_same p.entry.kernel (kernel_after e) c.kernels x here) in
        subst (λ q. among l (locks_in q) ≡ true) (sym after)
        (own_locks set c p.handed p.entry.kernel e l x (permits set c p ok) going' here (subst (λ q. among l (locks_in q) ≡ true) at held))

-- ---- spans

-- each later span with the lock begins after a place
abbrev AllAfter : Sym → ℕ → List Span → Type 0
AllAfter l u [] = Unit {0}
AllAfter l u (t ∷ ts) = (among l t.locks ≡ true → u < t.from) × AllAfter l u ts

all_later : (l : Sym) (m n : ℕ) (ps : List Posted) → m < n → AllAfter l m (sections n ps)
all_later l m n [] lt = tt
all_later l m n (p ∷ ps) lt = go p.entry.event (all_later l m (suc n) ps (omega arith))
  where
    go : (e : Event) → AllAfter l m (sections (suc n) ps) → AllAfter l m (span_by n p.entry.kernel e ps (sections (suc n) ps))
    go (Event.Enter ls) rest = (λ _. lt, rest)
    go _ rest = rest

while_held : (set : Setup) (c z : Core) (ps : List Posted) (n k : ℕ) (l : Sym)
    → replay_from set c ps ≡ Some z → among l (locks_of c k) ≡ true → AllAfter l (next_end k n ps) (sections n ps)
while_held set c z [] n k l r held = tt
while_held set c z (p ∷ ps) n k l r held =
    let parts = split (allowed set c p) (replay_from set (effect set c p) ps) z r in
    go parts.0 ((p.entry.kernel == k) && ends_section p.entry.event) refl
    (λ going. while_held set (effect set c p) z ps (suc n) k l parts.1 (keeps_held set c p k l parts.0 going held))
  where
    ended : (e : Event) → ends_section e ≡ true → AllAfter l n (span_by n p.entry.kernel e ps (sections (suc n) ps))
    ended Event.Leave h = all_later l n (suc n) ps (omega arith)
    ended (Event.Lose cause) h = all_later l n (suc n) ps (omega arith)
    ended _ h = absurd (true≢false (sym h))

    cons : (u : ℕ) (e : Event) → permitted set c p.handed p.entry.kernel e ≡ true → AllAfter l u (sections (suc n) ps) → AllAfter l u (span_by n p.entry.kernel e ps (sections (suc n) ps))
    cons u (Event.Enter ls) ok rest = (λ entered. absurd (no_enter set c p.handed p.entry.kernel k ls l ok held entered), rest)
    cons u _ ok rest = rest

    go : allowed set c p ≡ true → (b : Bool) → ((p.entry.kernel == k) && ends_section p.entry.event) ≡ b
        → (((p.entry.kernel == k) && ends_section p.entry.event) ≡ false → AllAfter l (next_end k (suc n) ps) (sections (suc n) ps))
        → AllAfter l (elim b [ true ↦ n | false ↦ next_end k (suc n) ps ]) (sections n (p ∷ ps))
    go ok true b rest = ended p.entry.event (both _ _ b).1
    go ok false b rest = cons (next_end k (suc n) ps) p.entry.event (permits set c p ok) (rest b)

before : (s : Span) (ts : List Span) → ((l : Sym) → among l s.locks ≡ true → AllAfter l s.until ts) → Before s ts
before s [] h = tt
before s (t ∷ ts) h = (λ l one other. (h l one).0 other, before s ts (λ l one. (h l one).1))

-- the master has a place
abbrev HasMaster : Core → Type 0
HasMaster c = is_some (nth c.kernels 0) ≡ true

keeps_master : (j : ℕ) (f : Kernel → Kernel) (ks : List Kernel) → is_some (nth ks 0) ≡ true → is_some (nth (change_at j f ks) 0) ≡ true
keeps_master j f [] h = h
keeps_master zero f (x ∷ xs) h = refl
keeps_master (suc j) f (x ∷ xs) h = refl

-- who enters has a place
has_place : (c : Core) (k : ℕ) → HasMaster c → in_evaluation c k ≡ true → is_some (nth c.kernels k) ≡ true
has_place c k master ok = go (either (has_attempt c k) _ ok)
  where
    of_attempt : (o : Option Kernel) → is_some (elim o [ None ↦ None | Some x ↦ x.attempt ]) ≡ true → is_some o ≡ true
    of_attempt None h = h
    of_attempt (Some x) h = refl

    go : (has_attempt c k ≡ true) ⊎ (((k == 0) && no_wait c) ≡ true) → is_some (nth c.kernels k) ≡ true
    go (inl h) = of_attempt (nth c.kernels k) h
    go (inr h) = subst (λ j. is_some (nth c.kernels j) ≡ true) (sym (eqb-true k 0 (both _ _ h).0)) master

-- the kernel that enters holds the locks then
entered_held : (set : Setup) (c : Core) (p : Posted) (ls : List Sym) (l : Sym) → HasMaster c → allowed set c p ≡ true → p.entry.event ≡ Event.Enter ls
    → among l ls ≡ true → among l (locks_of (effect set c p) p.entry.kernel) ≡ true
entered_held set c p ls l master ok is_enter h = go (nth c.kernels p.entry.kernel) refl
  where
    k : ℕ
    k = p.entry.kernel

    allowed_enter : permitted set c p.handed k (Event.Enter ls) ≡ true
    allowed_enter = subst (λ e. permitted set c p.handed k e ≡ true) is_enter (permits set c p ok)

    go : (o : Option Kernel) → nth c.kernels k ≡ o → among l (locks_in (nth (change_at k (kernel_after p.entry.event) c.kernels) k)) ≡ true
    go None at = absurd (true≢false (sym (subst (λ o. is_some o ≡ true) at (has_place c k master (both _ _ (both _ _ (both _ _ allowed_enter).0).0).0))))
    go (Some x) at =
        subst (λ q. among l (locks_in q) ≡ true) (sym (change_same k (kernel_after p.entry.event) c.kernels x at))
        (subst (λ e. among l (kernel_after e x).locks ≡ true) (sym is_enter) h)

pub apart_from : (set : Setup) (c z : Core) (ps : List Posted) (n : ℕ) → HasMaster c → replay_from set c ps ≡ Some z → NeverOverlap (sections n ps)
apart_from set c z [] n master r = tt
apart_from set c z (p ∷ ps) n master r =
    let parts = split (allowed set c p) (replay_from set (effect set c p) ps) z r in
    go p.entry.event refl parts.0 parts.1 (apart_from set (effect set c p) z ps (suc n) (keeps_master p.entry.kernel (kernel_after p.entry.event) c.kernels master) parts.1)
  where
    go : (e : Event) → p.entry.event ≡ e → allowed set c p ≡ true → replay_from set (effect set c p) ps ≡ Some z → NeverOverlap (sections (suc n) ps)
        → NeverOverlap (span_by n p.entry.kernel e ps (sections (suc n) ps))
    go (Event.Enter ls) is_enter ok r' rest =
        (before (record { from = n; until = next_end p.entry.kernel (suc n) ps; locks = ls }) (sections (suc n) ps) (λ l h. while_held set (effect set c p) z ps (suc n) p.entry.kernel l r' (entered_held set c p ls l master ok is_enter h)), rest)
    go _ is_enter ok r' rest = rest

pub sections_apart : (set : Setup) (ps : List Posted) (c : Core) → replay_from set (start set) ps ≡ Some c → NeverOverlap (sections 1 ps)
sections_apart set ps c r = apart_from set (start set) c ps 1 refl r
