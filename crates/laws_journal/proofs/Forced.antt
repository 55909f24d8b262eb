-- With no kernels at most one entry may be posted in a wait: the stand-in's next, or Resume.
use Rattle.std.proofs.Common.{◌≡◌, refl, sym, ap, ◌∙◌, ℕ, zero, suc, Bool, true, false, List, [], ◌∷◌, Option, Some, None, true≢false, eqb-true, arith, inl, inr}
use Rattle.std.specs.Prelude.{◌&&◌, ◌==◌, ◌⊎◌}
use Rattle.std.specs.Ordering.{is_eq}
use Rattle.expr_tree.specs.Order.{same, text_cmp}
use Rattle.semantics.specs.Definitions.{Definitions}
use Rattle.semantics.specs.Program.{Request, Call}
use Rattle.semantics.specs.Play.{Reply}
use Rattle.semantics.specs.Eval.{same_symbols}
use Rattle.journal.specs.Places.{nth, given, when, is_some}
use Rattle.journal.specs.declared.loss.Loss.{Loss}
use Rattle.journal.specs.declared.event.Event.{Event}
use Rattle.journal.specs.Entry.{Handed}
use Rattle.journal.specs.Core.{Setup, Core, Kernel, lives, attempt_of, count, has_attempt, no_wait, condition_holds, first_for, is_id, in_evaluation, service, permitted}
use Rattle.journal.specs.Follow.{Attempt, Wants, Delivers, Quits, Stuck, Phase, Free, At, Lost, View, heard, attempted, stand_in_entry}
use Rattle.laws_journal.proofs.Tables.{both, either, is_not, none≢some}
use Rattle.laws_journal.proofs.Equal.{same-eq, same_text-eq, same_symbols-eq}

-- no kernel but the master's place
pub record Lone (c : Core) : Type 0 where
  pub row : Kernel
  pub rows : c.kernels ≡ row ∷ []
  pub dead : row.lives ≡ false

-- what is read of the rows
abbrev attempt_in : List Kernel → ℕ → Option ℕ
attempt_in ks k = elim (nth ks k) [ None ↦ None | Some x ↦ x.attempt ]

abbrev lives_in : List Kernel → ℕ → Bool
lives_in ks k = elim (nth ks k) [ None ↦ false | Some x ↦ x.lives ]

never : (k : ℕ) → (suc k == 0) ≡ true → ⊥
never k e = let same = eqb-true (suc k) 0 e in omega (arith, same)

no_attempt : (c : Core) (k : ℕ) → Lone c → attempt_of c (suc k) ≡ None
no_attempt c k lone = ap (λ ks. attempt_in ks (suc k)) lone.rows

no_life : (c : Core) (k : ℕ) → Lone c → lives c (suc k) ≡ false
no_life c k lone = ap (λ ks. lives_in ks (suc k)) lone.rows

no_evaluation : (c : Core) (k : ℕ) → Lone c → in_evaluation c (suc k) ≡ true → ⊥
no_evaluation c k lone ok = go (either (has_attempt c (suc k)) _ ok)
  where
    go : (has_attempt c (suc k) ≡ true) ⊎ (((suc k == 0) && no_wait c) ≡ true) → ⊥
    go (inl h) = true≢false (sym h ∙ ap is_some (no_attempt c k lone))
    go (inr h) = never k (both _ _ h).0

others_post_nothing : (set : Setup) (c : Core) (h : Handed) (k : ℕ) (e : Event) → Lone c → permitted set c h (suc k) e ≡ true → ⊥
others_post_nothing set c h k (Event.Submit id) lone ok = never k (both _ _ (both _ _ (both _ _ ok).0).0).0
others_post_nothing set c h k (Event.Yield w) lone ok = never k (both _ _ (both _ _ (both _ _ ok).0).0).0
others_post_nothing set c h k Event.Resume lone ok = never k (both _ _ (both _ _ ok).0).0
others_post_nothing set c h k (Event.Take id) lone ok = true≢false (sym (both _ _ (both _ _ ok).0).1 ∙ no_life c k lone)
others_post_nothing set c h k (Event.Access e r) lone ok = true≢false (sym (both _ _ ok).0 ∙ ap is_some (no_attempt c k lone))
others_post_nothing set c h k (Event.Ask n) lone ok = no_evaluation c k lone (both _ _ ok).0
others_post_nothing set c h k (Event.Print t) lone ok = no_evaluation c k lone ok
others_post_nothing set c h k (Event.Enter ls) lone ok = no_evaluation c k lone (both _ _ (both _ _ (both _ _ ok).0).0).0
others_post_nothing set c h k Event.Leave lone ok = no_evaluation c k lone (both _ _ ok).0
others_post_nothing set c h k (Event.Deliver id v) lone ok = true≢false (sym (both _ _ (both _ _ ok).0).0 ∙ ap (is_id id) (no_attempt c k lone))
others_post_nothing set c h k (Event.Lose cause) lone ok = true≢false (sym (both _ _ ok).1 ∙ no_life c k lone)
others_post_nothing set c h k Event.Close lone ok = never k (both _ _ ok).0

pub by_master : (set : Setup) (c : Core) (h : Handed) (k : ℕ) (e : Event) → Lone c → permitted set c h k e ≡ true → k ≡ 0
by_master set c h zero e lone ok = refl
by_master set c h (suc k) e lone ok = absurd (others_post_nothing set c h k e lone ok)

-- ---- the stand-in's attempt is the core's

abbrev pub Synced : Phase → Option ℕ → Type 0
Synced (Free d) o = o ≡ None
Synced (At id a) o = o ≡ Some id
Synced Lost o = ⊥

-- the one event that may come in a wait
abbrev pub or_zero : Option ℕ → ℕ
or_zero None = 0
or_zero (Some id) = id

abbrev pub forced : Setup → Core → Phase → Event
forced set c (Free d) = elim (condition_holds set.names c) [ true ↦ Event.Resume | false ↦ Event.Take (or_zero (first_for 1 c.items 0)) ]
forced set c (At id (Wants (Call.Sends (Request.Access e)) f)) = Event.Access e (service set c e).reply
forced set c (At id (Wants (Call.Sends Request.Count) f)) = Event.Ask (count c)
forced set c (At id (Wants (Call.Sends (Request.Print t)) f)) = Event.Print t
forced set c (At id (Wants (Call.Enter ls) f)) = Event.Enter ls
forced set c (At id (Wants Call.Leave f)) = Event.Leave
forced set c (At id (Wants (Call.Sends (Request.Outside e)) f)) = Event.Resume
forced set c (At id (Delivers v d)) = Event.Deliver id v
forced set c (At id Quits) = Event.Resume
forced set c (At id Stuck) = Event.Resume
forced set c Lost = Event.Resume

whenever : {A : Type 0} (b : Bool) (o : Option A) (a : A) → when b o ≡ Some a → b ≡ true
whenever true o a e = refl
whenever false o a e = absurd (none≢some e)

opened : {A B : Type 0} (o : Option A) (k : A → Option B) (b : B) → given o k ≡ Some b → (a : A) × (o ≡ Some a)
opened None k b e = absurd (none≢some e)
opened (Some a) k b e = (a, refl)

-- an entry that answers a call is the one for it
answered : (set : Setup) (c : Core) (h : Handed) (id : ℕ) (call : Call) (f : Reply → Attempt) (e : Event) (r : Reply)
    → permitted set c h 0 e ≡ true → heard set.names call e ≡ Some r → e ≡ forced set c (At id (Wants call f))
answered set c h id (Call.Sends (Request.Access x)) f (Event.Access y r') r ok q =
    let same_call = same-eq x y (whenever (same x y) _ r q) in
    let same_reply : r' ≡ (service set c y).reply = same-eq r' ((service set c y).reply) (both _ _ ok).1 in
    ap (λ v. Event.Access y v) same_reply ∙ ap (λ z. Event.Access z ((service set c z).reply)) (sym same_call)
answered set c h id (Call.Sends Request.Count) f (Event.Ask n) r ok q = ap Event.Ask (eqb-true n (count c) (both _ _ ok).1)
answered set c h id (Call.Sends (Request.Print t)) f (Event.Print u) r ok q = ap Event.Print (sym (same_text-eq t u (whenever (is_eq (text_cmp t u)) _ r q)))
answered set c h id (Call.Enter ls) f (Event.Enter ms) r ok q = ap Event.Enter (sym (same_symbols-eq ls ms (whenever (same_symbols ls ms) _ r q)))
answered set c h id Call.Leave f Event.Leave r ok q = refl
answered set c h id _ f _ r ok q = absurd (none≢some q)

in_attempt : (set : Setup) (c : Core) (h : Handed) (id : ℕ) (a : Attempt) (e : Event) (phase : Phase)
    → permitted set c h 0 e ≡ true → attempted set.names id a e ≡ Some phase → e ≡ forced set c (At id a)
in_attempt set c h id (Wants call f) e phase ok q = let r = opened (heard set.names call e) (λ reply. Some (At id (f reply))) phase q in answered set c h id call f e r.0 ok r.1
in_attempt set c h id (Delivers v d) (Event.Deliver i w) phase ok q =
    let parts = both (id == i) (same v w) (whenever ((id == i) && same v w) _ phase q) in
    let same_id = eqb-true id i parts.0 in
    let same_value = same-eq v w parts.1 in
    λ j. Event.Deliver (sym same_id j) (sym same_value j)
in_attempt set c h id Quits (Event.Lose Loss.Quit) phase ok q = absurd (true≢false (sym ok))
in_attempt set c h id _ _ phase ok q = absurd (none≢some q)

first_is : (id : ℕ) (o : Option ℕ) → is_id id o ≡ true → id ≡ or_zero o
first_is id None h = absurd (true≢false (sym h))
first_is id (Some i) h = eqb-true id i h

pub waiting_evaluation : (c : Core) → is_some c.wait ≡ true → attempt_of c 0 ≡ None → in_evaluation c 0 ≡ true → ⊥
waiting_evaluation c waits none ok = go (either (has_attempt c 0) _ ok)
  where
    go : (has_attempt c 0 ≡ true) ⊎ (((0 == 0) && no_wait c) ≡ true) → ⊥
    go (inl h) = true≢false (sym h ∙ ap is_some none)
    go (inr h) = true≢false (sym waits ∙ is_not (is_some c.wait) h)

pub no_wait_now : (c : Core) → is_some c.wait ≡ true → no_wait c ≡ true → ⊥
no_wait_now c waits h = true≢false (sym waits ∙ is_not _ h)

outside_attempt : (set : Setup) (c : Core) (h : Handed) (d : Definitions) (e : Event)
    → is_some c.wait ≡ true → attempt_of c 0 ≡ None → permitted set c h 0 e ≡ true → e ≡ forced set c (Free d)
outside_attempt set c h d (Event.Submit id) waits none ok = absurd (no_wait_now c waits (both _ _ (both _ _ ok).0).0)
outside_attempt set c h d (Event.Yield w) waits none ok = absurd (no_wait_now c waits (both _ _ (both _ _ ok).0).0)
outside_attempt set c h d Event.Resume waits none ok = ap (λ b. elim b [ true ↦ Event.Resume | false ↦ Event.Take (or_zero (first_for 1 c.items 0)) ]) (sym (both _ _ ok).0)
outside_attempt set c h d (Event.Take id) waits none ok =
    let unmet : condition_holds set.names c ≡ false = is_not _ (both _ _ (both _ _ (both _ _ ok).0).1).1 in
    ap Event.Take (first_is id (first_for 1 c.items 0) (both _ _ ok).1) ∙ ap (λ b. elim b [ true ↦ Event.Resume | false ↦ Event.Take (or_zero (first_for 1 c.items 0)) ]) (sym unmet)
outside_attempt set c h d (Event.Access f r) waits none ok = absurd (true≢false (sym (both _ _ ok).0 ∙ ap is_some none))
outside_attempt set c h d (Event.Ask n) waits none ok = absurd (waiting_evaluation c waits none (both _ _ ok).0)
outside_attempt set c h d (Event.Print t) waits none ok = absurd (waiting_evaluation c waits none ok)
outside_attempt set c h d (Event.Enter ls) waits none ok = absurd (waiting_evaluation c waits none (both _ _ (both _ _ (both _ _ ok).0).0).0)
outside_attempt set c h d Event.Leave waits none ok = absurd (waiting_evaluation c waits none (both _ _ ok).0)
outside_attempt set c h d (Event.Deliver id v) waits none ok = absurd (true≢false (sym (both _ _ (both _ _ ok).0).0 ∙ ap (is_id id) none))
outside_attempt set c h d (Event.Lose cause) waits none ok = absurd (true≢false (sym ok))
outside_attempt set c h d Event.Close waits none ok = absurd (no_wait_now c waits ok)

-- in a wait kernel 0 can post but one entry
pub forced_entry : (set : Setup) (c : Core) (h : Handed) (v : View) (e : Event) (phase : Phase)
    → is_some c.wait ≡ true → Synced v.phase (attempt_of c 0) → permitted set c h 0 e ≡ true → stand_in_entry set v v.phase e ≡ Some phase → e ≡ forced set c v.phase
forced_entry set c h v e phase waits synced ok q = go v.phase synced q
  where
    go : (x : Phase) → Synced x (attempt_of c 0) → stand_in_entry set v x e ≡ Some phase → e ≡ forced set c x
    go (Free d) s q' = outside_attempt set c h d e waits s ok
    go (At id a) s q' = in_attempt set c h id a e phase ok q'
    go Lost s q' = absurd s
