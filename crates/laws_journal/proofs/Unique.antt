-- With no kernels a script has at most one journal.
use Rattle.std.proofs.Common.{◌≡◌, refl, sym, ap, subst, ◌∙◌, ℕ, suc, Bool, true, false, List, [], ◌∷◌, ◌++◌, length, take, append-nil, append_assoc, Option, Some, None, T, true≢false, eqb-true}
use Rattle.std.specs.Prelude.{◌&&◌, not, ◌==◌, ltb, pos, replicate}
use Rattle.expr_tree.specs.declared.sym.Sym.{Sym}
use Rattle.expr_tree.specs.Tree.{Tree, integer, depth}
use Rattle.semantics.specs.Definitions.{Definitions, empty}
use Rattle.semantics.specs.Program.{Request, Call, Mode}
use Rattle.semantics.specs.Play.{Reply, Play, Over, Calls, whole}
use Rattle.journal.specs.Places.{nth, change_at, given, is_some}
use Rattle.journal.specs.Closure.{bundle}
use Rattle.journal.specs.declared.loss.Loss.{Loss}
use Rattle.journal.specs.declared.event.Wait.{Wait}
use Rattle.journal.specs.declared.event.Event.{Event}
use Rattle.journal.specs.declared.event.Entry.{Entry}
use Rattle.journal.specs.declared.item.Item.{Item}
use Rattle.journal.specs.Entry.{Posted, Handed}
use Rattle.semantics.specs.Ends.{aborted}
use Rattle.journal.specs.Core.{null, Setup, Core, Kernel, new_kernel, start, step, attempt_of, allowed, effect, permitted, kernel_after, wait_after, all_free, wait_reply, count, in_mode}
use Rattle.journal.specs.Follow.{Plan, Wants, Delivers, Quits, Phase, Free, At, Lost, View, heard, stand_in_entry, entry_of, watch, watch_from, first_view, kernel_run, all_run, item_of, with_handed}
use Rattle.journal.specs.Forms.{Next, Replies, Awaits, Form, Answers, Submits, form}
use Rattle.journal.specs.Run.{Walk, Course, Goes, going, or_differs, arrived, post, post_next, master_posts, is_event, is_resume, until_resume, wait_for, seeds_of, submit_all, Answered, replied, by_next, by_form, answer, Finish, play_along, Reading, Reads, Unread, Ran, run_cell, run_cells, first_losses, first_walk, is_loss, run_along, closes, whole_run, posted_by, is_over, kernels_run, legal, after_cell, out_line}
use Rattle.laws_journal.specs.Laws.{entries_of}
use Rattle.laws_journal.proofs.Tables.{opened, when_some, both, none≢some, some_is, split}
use Rattle.laws_journal.proofs.Equal.{is_event-eq}
use Rattle.laws_journal.proofs.Forced.{Lone, by_master, Synced, forced, forced_entry}
use Rattle.laws_journal.proofs.Courses.{arrived_is, goes_is, used≢goes, no_entry≢goes, gone, goes_so, one_step}
use Rattle.laws_journal.proofs.Kept as Kept
use Rattle.laws_journal.proofs.Replayed as Replayed

-- ---- the stand-in, entry by entry

pub attempt_after : (set : Setup) (c : Core) (h : Handed) (v : View) (x y : Phase) (e : Event) (row : Kernel)
    → permitted set c h 0 e ≡ true → Synced x (row.attempt) → stand_in_entry set v x e ≡ Some y → Synced y (kernel_after e row).attempt
attempt_after set c h v (Free d) y (Event.Take id) row ok s q =
    let t = opened (item_of v.items id) (λ i. Some (At id _)) y q in
    subst (λ z. Synced z (Some id)) (some_is t.2) refl
attempt_after set c h v (Free d) y (Event.Submit id) row ok s q = subst (λ z. Synced z row.attempt) (some_is q) s
attempt_after set c h v (Free d) y (Event.Yield w) row ok s q = subst (λ z. Synced z row.attempt) (some_is q) s
attempt_after set c h v (Free d) y Event.Resume row ok s q = subst (λ z. Synced z row.attempt) (some_is q) s
attempt_after set c h v (Free d) y (Event.Access e r) row ok s q = subst (λ z. Synced z row.attempt) (some_is q) s
attempt_after set c h v (Free d) y (Event.Ask n) row ok s q = subst (λ z. Synced z row.attempt) (some_is q) s
attempt_after set c h v (Free d) y (Event.Print t) row ok s q = subst (λ z. Synced z row.attempt) (some_is q) s
attempt_after set c h v (Free d) y (Event.Enter ls) row ok s q = subst (λ z. Synced z row.attempt) (some_is q) s
attempt_after set c h v (Free d) y Event.Leave row ok s q = subst (λ z. Synced z row.attempt) (some_is q) s
attempt_after set c h v (Free d) y (Event.Deliver id w) row ok s q = subst (λ z. Synced z None) (some_is q) refl
attempt_after set c h v (Free d) y (Event.Lose cause) row ok s q = subst (λ z. Synced z None) (some_is q) refl
attempt_after set c h v (Free d) y Event.Close row ok s q = subst (λ z. Synced z row.attempt) (some_is q) s
attempt_after set c h v (At id (Wants call f)) y e row ok s q =
    let t = opened (heard set.names call e) (λ reply. Some (At id (f reply))) y q in
    subst (λ z. Synced z (kernel_after e row).attempt) (some_is t.2) (same call e t.0 t.1)
  where
    same : (c' : Call) (e' : Event) (r : Reply) → heard set.names c' e' ≡ Some r → (kernel_after e' row).attempt ≡ Some id
    same (Call.Sends (Request.Access f')) (Event.Access g r') r h' = s
    same (Call.Sends Request.Count) (Event.Ask n) r h' = s
    same (Call.Sends (Request.Print t)) (Event.Print u) r h' = s
    same (Call.Enter ls) (Event.Enter ms) r h' = s
    same Call.Leave Event.Leave r h' = s
    same _ _ r h' = absurd (none≢some h')
attempt_after set c h v (At id (Delivers w d)) y (Event.Deliver i u) row ok s q =
    subst (λ z. Synced z None) (some_is (when_some _ _ y q).1) refl
attempt_after set c h v (At id Quits) y (Event.Lose Loss.Quit) row ok s q = absurd (true≢false (sym ok))
attempt_after set c h v (At id _) y _ row ok s q = absurd (none≢some q)
attempt_after set c h v Lost y e row ok s q = absurd s

module _ (plan : Plan) where
  -- ---- the stand-in at each place of a journal

  view_split : (set : Setup) (k : ℕ) (v z : View) (ps qs : List Posted) → watch_from set plan k v (ps ++ qs) ≡ Some z → (u : View) × (watch_from set plan k v ps ≡ Some u) × (watch_from set plan k u qs ≡ Some z)
  view_split set k v z [] qs r = (v, refl, r)
  view_split set k v z (p ∷ ps) qs r =
      let s = opened (watch set plan k v p) (λ w. watch_from set plan k w (ps ++ qs)) z r in
      let t = view_split set k s.0 z ps qs s.2 in
      (t.0, ap (λ o. given o (λ w. watch_from set plan k w ps)) s.1 ∙ t.1, t.2)

  abbrev pub Seen : Setup → List Posted → Type 0
  Seen set ps = (v : View) × (kernel_run set plan 0 ps ≡ Some v)

  pub seen_before : (set : Setup) (ps qs : List Posted) → Seen set (ps ++ qs) → Seen set ps
  seen_before set ps qs s = let t = view_split set 0 first_view s.0 ps qs s.1 in (t.0, t.1)

  -- the last entry, where it is kernel 0's
  last_entry : (set : Setup) (ps : List Posted) (p : Posted) (z : View) → p.entry.kernel ≡ 0 → kernel_run set plan 0 (ps ++ p ∷ []) ≡ Some z
      → (v : View) × (kernel_run set plan 0 ps ≡ Some v) × (stand_in_entry set v v.phase p.entry.event ≡ Some z.phase)
  last_entry set ps p z zero' r =
      let s = view_split set 0 first_view z ps (p ∷ []) r in
      let t = opened (watch set plan 0 s.0 p) (λ w. Some w) z s.2 in
      let here : watch set plan 0 s.0 p ≡ Some z = t.1 ∙ t.2 in
      let own : given (entry_of set plan 0 s.0 p.entry.event) (λ phase. Some (after s.0 phase)) ≡ Some z =
      subst (λ k. elim (k == 0) [ false ↦ Some (record (s.0) { items = with_handed p.entry.event p.handed (s.0).items }) | true ↦ given (entry_of set plan 0 s.0 p.entry.event) (λ phase. Some (after s.0 phase)) ] ≡ Some z) zero' here in
      let u = opened (entry_of set plan 0 s.0 p.entry.event) (λ phase. Some (after s.0 phase)) z own in
      (s.0, s.1, u.1 ∙ ap Some (ap (λ v. v.phase) (some_is u.2)))
    where
      after : View → Phase → View
      after v phase = record { items = with_handed p.entry.event p.handed v.items; own = suc v.own; phase = phase }

  -- ---- what is kept: no kernels, and the stand-in's attempt is the core's

  record Sound (set : Setup) (c : Core) (ps : List Posted) : Type 0 where
    lone : Lone c
    synced : (v : View) → kernel_run set plan 0 ps ≡ Some v → Synced v.phase (attempt_of c 0)

  dead_after : (e : Event) (row : Kernel) → row.lives ≡ false → (kernel_after e row).lives ≡ false
  dead_after (Event.Lose cause) row h = refl
  dead_after _ row h = h

  abbrev attempt_in : List Kernel → Option ℕ
  attempt_in ks = elim (nth ks 0) [ None ↦ None | Some x ↦ x.attempt ]

  sound_after : (set : Setup) (c : Core) (ps : List Posted) (p : Posted) → Sound set c ps → allowed set c p ≡ true → Sound set (effect set c p) (ps ++ p ∷ [])
  sound_after set c ps p sound ok =
      record {
        lone = record { row = kernel_after e row; rows = rows_after; dead = dead_after e row sound.lone.dead };
        synced = λ z r.
            let s = last_entry set ps p z zero' r in
            subst (Synced z.phase) (sym (ap attempt_in rows_after))
            (attempt_after set c p.handed s.0 (s.0).phase z.phase e row permits (subst (Synced (s.0).phase) (ap attempt_in sound.lone.rows) (sound.synced s.0 s.1)) s.2);
      }
    where
      e : Event
      e = p.entry.event

      row : Kernel
      row = sound.lone.row

      permits_by : permitted set c p.handed p.entry.kernel e ≡ true
      permits_by = (both (not c.closed && _) (permitted set c p.handed p.entry.kernel e) ok).1

      zero' : p.entry.kernel ≡ 0
      zero' = by_master set c p.handed p.entry.kernel e sound.lone permits_by

      permits : permitted set c p.handed 0 e ≡ true
      permits = subst (λ k. permitted set c p.handed k e ≡ true) zero' permits_by

      rows_after : change_at p.entry.kernel (kernel_after e) c.kernels ≡ kernel_after e row ∷ []
      rows_after = ap (λ k. change_at k (kernel_after e) c.kernels) zero' ∙ ap (change_at 0 (kernel_after e)) sound.lone.rows

  -- one post, taken apart
  pub record Step (set : Setup) (h : Handed) (c : Core) (ps : List Posted) (e : Entry) (es : List Entry) (v : Walk) : Type 0 where
    pub ok : allowed set c (record { entry = e; handed = h }) ≡ true
    pub core : v.core ≡ effect set c (record { entry = e; handed = h })
    pub posted : v.posted ≡ ps ++ record { entry = e; handed = h } ∷ []
    pub rest : v.rest ≡ es

  pub stepped : (set : Setup) (h : Handed) (w : Walk) (e : Entry) (es : List Entry) (v : Walk) → post set h w e es ≡ Goes v → Step set h w.core w.posted e es v
  stepped set h w e es v r =
      let s = one_step (step set w.core p) after v r in
      let t = split (allowed set w.core p) (Some (effect set w.core p)) s.0 s.1 in
      record { ok = t.0; core = sym (ap (λ x. x.core) s.2) ∙ sym (some_is t.1); posted = sym (ap (λ x. x.posted) s.2); rest = sym (ap (λ x. x.rest) s.2) }
    where
      p : Posted
      p = record { entry = e; handed = h }

      after : Core → Walk
      after c = record { core = c; posted = w.posted ++ p ∷ []; rest = es }

  abbrev Right : Setup → Walk → List Entry → Type 0
  Right set w rest = Sound set w.core w.posted

  right_post : (set : Setup) (h : Handed) (w : Walk) (e : Entry) (es : List Entry) (v : Walk) → Right set w (e ∷ es) → post set h w e es ≡ Goes v → Right set v v.rest
  right_post set h w e es v sound r =
      let s = stepped set h w e es v r in
      let p : Posted = record { entry = e; handed = h } in
      subst (λ c. Sound set c v.posted) (sym s.core) (subst (λ ps. Sound set (effect set w.core p) ps) (sym s.posted) (sound_after set w.core w.posted p sound s.ok))

  -- what was posted stays in front
  abbrev pub Begun : List Posted → Walk → List Entry → Type 0
  Begun ps w rest = (further : List Posted) × (w.posted ≡ ps ++ further)

  pub begun_post : (set : Setup) (ps : List Posted) (h : Handed) (w : Walk) (e : Entry) (es : List Entry) (v : Walk) → Begun ps w (e ∷ es) → post set h w e es ≡ Goes v → Begun ps v v.rest
  begun_post set ps h w e es v b r =
      let s = stepped set h w e es v r in
      let p : Posted = record { entry = e; handed = h } in
      (b.0 ++ p ∷ [], s.posted ∙ ap (λ xs. xs ++ p ∷ []) b.1 ∙ append_assoc ps b.0 (p ∷ []))

  pub begun_at : (w : Walk) → Begun w.posted w w.rest
  begun_at w = ([], sym (append-nil w.posted))

  abbrev Fine : Setup → Walk → Type 0
  Fine set w = Seen set w.posted

  fine_before : (set : Setup) (w v : Walk) → Begun w.posted v v.rest → Fine set v → Fine set w
  fine_before set w v b fine = seen_before set w.posted b.0 (subst (Seen set) b.1 fine)

  -- ---- two walks with one past

  record Alike (v w : Walk) : Type 0 where
    core : v.core ≡ w.core
    posted : v.posted ≡ w.posted

  -- v with w's core and w's past
  abbrev over : Walk → Walk → Walk
  over v w = record { core = w.core; posted = w.posted; rest = v.rest }

  aligned : {B : Type 0} (f : Walk → Course B) (v w : Walk) (r : B) → Alike v w → f v ≡ Goes r → f (over v w) ≡ Goes r
  aligned f v w r a q = subst (λ x. f x ≡ Goes r) (λ i. record { core = a.core i; posted = a.posted i; rest = v.rest }) q

  over_alike : (v w : Walk) → Alike (over v w) w
  over_alike v w = record { core = refl; posted = refl }

  sound_over : (set : Setup) (v w : Walk) → Alike v w → Sound set v.core v.posted → Sound set w.core w.posted
  sound_over set v w a s = subst (λ ps. Sound set w.core ps) a.posted (subst (λ c. Sound set c v.posted) a.core s)

  post_alike : (set : Setup) (h : Handed) (w x : Walk) (e : Entry) (es fs : List Entry) (u v : Walk)
      → Alike w x → post set h w e es ≡ Goes u → post set h x e fs ≡ Goes v → Alike u v
  post_alike set h w x e es fs u v a q r =
      let s = stepped set h w e es u q in
      let t = stepped set h x e fs v r in
      let p : Posted = record { entry = e; handed = h } in
      record {
        core = s.core ∙ ap (λ c. effect set c p) a.core ∙ sym t.core;
        posted = s.posted ∙ ap (λ ps. ps ++ p ∷ []) a.posted ∙ sym t.posted;
      }

  -- an entry is the master's with this event
  pub is_entry : (event : Event) (e : Entry) → ((e.kernel == 0) && is_event event e.event) ≡ true → e ≡ record { kernel = 0; event = event }
  is_entry event e q =
      let parts = both (e.kernel == 0) (is_event event e.event) q in
      let number = eqb-true e.kernel 0 parts.0 in
      let same = is_event-eq event e.event parts.1 in
      λ i. record { kernel = number i; event = sym same i }

  next_alike : (set : Setup) (event : Event) (h : Handed) (w x : Walk) (es fs : List Entry) (u v : Walk)
      → Alike w x → post_next set event h w es ≡ Goes u → post_next set event h x fs ≡ Goes v → Alike u v
  next_alike set event h w x [] fs u v a q r = absurd (used≢goes q)
  next_alike set event h w x (e ∷ es) [] u v a q r = absurd (used≢goes r)
  next_alike set event h w x (e ∷ es) (f ∷ fs) u v a q r =
      let s = goes_so ((e.kernel == 0) && is_event event e.event) (post set h w e es) u q in
      let t = goes_so ((f.kernel == 0) && is_event event f.event) (post set h x f fs) v r in
      post_alike set h w x e es fs u v a s.1 (subst (λ g. post set h x g fs ≡ Goes v) (is_entry event f t.0 ∙ sym (is_entry event e s.0)) t.1)

  master_alike : (set : Setup) (event : Event) (h : Handed) (w x u v : Walk) → Alike w x → master_posts set event h w ≡ Goes u → master_posts set event h x ≡ Goes v → Alike u v
  master_alike set event h w x u v a q r = next_alike set event h w x w.rest x.rest u v a q r

  -- ---- waits

  forced_here : (set : Setup) (w : Walk) (e : Entry) (es : List Entry) (u : Walk) → Sound set w.core w.posted → is_some w.core.wait ≡ true → post set Handed.Nothing w e es ≡ Goes u → Fine set u
      → (v : View) × (kernel_run set plan 0 w.posted ≡ Some v) × (e.kernel ≡ 0) × (e.event ≡ forced set w.core v.phase)
  forced_here set w e es u sound waits q fine =
      let s = stepped set Handed.Nothing w e es u q in
      let permits_by : permitted set w.core Handed.Nothing e.kernel e.event ≡ true = (both (not w.core.closed && _) (permitted set w.core Handed.Nothing e.kernel e.event) s.ok).1 in
      let zero' = by_master set w.core Handed.Nothing e.kernel e.event sound.lone permits_by in
      let run' : kernel_run set plan 0 (w.posted ++ record { entry = e; handed = Handed.Nothing } ∷ []) ≡ Some (fine.0) = ap (λ ps. kernel_run set plan 0 ps) (sym s.posted) ∙ fine.1 in
      let t = last_entry set w.posted (record { entry = e; handed = Handed.Nothing }) fine.0 zero' run' in
      (t.0, t.1, zero', forced_entry set w.core Handed.Nothing t.0 e.event (fine.0).phase waits (sound.synced t.0 t.1) (subst (λ k. permitted set w.core Handed.Nothing k e.event ≡ true) zero' permits_by) t.2)

  waits_after : (w : Option Wait) (e : Event) → is_some w ≡ true → is_resume e ≡ false → is_some (wait_after w e) ≡ true
  waits_after w (Event.Yield v) h n = refl
  waits_after w Event.Resume h n = absurd (true≢false n)
  waits_after w _ h n = h

  abbrev AlikePair : {A : Type 0} → A × Walk → A × Walk → Type 0
  AlikePair r s = (r.0 ≡ s.0) × Alike r.1 s.1

  -- a walk on the way to a fine one is fine
  fine_mid : (set : Setup) (x : List Tree) (u : Walk) (es : List Entry) (r : List Tree × Walk) (b : Bool) → u.rest ≡ es
      → elim b [ true ↦ Goes (x, u) | false ↦ until_resume set u es ] ≡ Goes r → Fine set r.1 → Fine set u
  fine_mid set x u es r true rest q fine = subst (Fine set) (sym (ap (λ y. y.1) (goes_is q))) fine
  fine_mid set x u es r false rest q fine = fine_before set u r.1 (Kept.until_good set (Begun u.posted) (begun_post set u.posted) u es r rest (begun_at u) q) fine

  until_alike : (set : Setup) (w x : Walk) (es fs : List Entry) (r s : List Tree × Walk) → Alike w x → Sound set w.core w.posted → is_some w.core.wait ≡ true
      → until_resume set w es ≡ Goes r → until_resume set x fs ≡ Goes s → Fine set r.1 → Fine set s.1 → AlikePair r s
  until_alike set w x [] fs r s a sound waits q p fine fine' = absurd (used≢goes q)
  until_alike set w x (e ∷ es) [] r s a sound waits q p fine fine' = absurd (used≢goes p)
  until_alike set w x (e ∷ es) (f ∷ fs) r s a sound waits q p fine fine' =
      let one = gone (post set Handed.Nothing w e es) (λ v. elim (is_resume e.event) [ true ↦ Goes (wait_reply set.names w.core, v) | false ↦ until_resume set v es ]) r q in
      let two = gone (post set Handed.Nothing x f fs) (λ v. elim (is_resume f.event) [ true ↦ Goes (wait_reply set.names x.core, v) | false ↦ until_resume set v fs ]) s p in
      let fine_one = fine_mid set (wait_reply set.names w.core) one.0 es r (is_resume e.event) (Kept.posted_rest set Handed.Nothing w e es one.0 one.1) one.2 fine in
      let fine_two = fine_mid set (wait_reply set.names x.core) two.0 fs s (is_resume f.event) (Kept.posted_rest set Handed.Nothing x f fs two.0 two.1) two.2 fine' in
      let left = forced_here set w e es one.0 sound waits one.1 fine_one in
      let right = forced_here set x f fs two.0 (sound_over set w x a sound) (ap (λ c. is_some c.wait) (sym a.core) ∙ waits) two.1 fine_two in
      let view : left.0 ≡ right.0 = some_is (sym left.1 ∙ ap (λ ps. kernel_run set plan 0 ps) a.posted ∙ right.1) in
      let event : f.event ≡ e.event = right.3 ∙ (λ i. forced set (sym a.core i) (sym view i).phase) ∙ sym left.3 in
      let number : f.kernel ≡ e.kernel = right.2 ∙ sym left.2 in
      let same : f ≡ e = λ i. record { kernel = number i; event = event i } in
      let alike = post_alike set Handed.Nothing w x e es fs one.0 two.0 a one.1 (subst (λ g. post set Handed.Nothing x g fs ≡ Goes (two.0)) same two.1) in
      ended one.0 two.0 alike (is_resume e.event) refl one.2 (subst (λ g. elim (is_resume g.event) [ true ↦ Goes (wait_reply set.names x.core, two.0) | false ↦ until_resume set two.0 fs ] ≡ Goes s) same two.2)
      (λ going q' p'.
      until_alike set one.0 two.0 es fs r s alike (right_post set Handed.Nothing w e es one.0 sound one.1)
      (ap (λ c. is_some c.wait) (stepped set Handed.Nothing w e es one.0 one.1).core ∙ waits_after w.core.wait e.event waits going) q' p' fine fine')
    where
      ended : (u v : Walk) → Alike u v → (b : Bool) → is_resume e.event ≡ b
          → elim b [ true ↦ Goes (wait_reply set.names w.core, u) | false ↦ until_resume set u es ] ≡ Goes r
          → elim b [ true ↦ Goes (wait_reply set.names x.core, v) | false ↦ until_resume set v fs ] ≡ Goes s
          → (is_resume e.event ≡ false → until_resume set u es ≡ Goes r → until_resume set v fs ≡ Goes s → AlikePair r s) → AlikePair r s
      ended u v alike true b q' p' next =
          let one : ◌≡◌ {A = List Tree × Walk} (wait_reply set.names w.core, u) r = goes_is q' in
          let two : ◌≡◌ {A = List Tree × Walk} (wait_reply set.names x.core, v) s = goes_is p' in
          subst (λ y. AlikePair y s) one (subst (λ y. AlikePair (wait_reply set.names w.core, u) y) two (ap (wait_reply set.names) a.core, alike))
      ended u v alike false b q' p' next = next b q' p'

  abbrev Sounds : Setup → Walk → Type 0
  Sounds set w = Sound set w.core w.posted

  -- a Yield leaves a wait
  yield_waits : (set : Setup) (wait : Wait) (h : Handed) (w : Walk) (es : List Entry) (v : Walk) → post_next set (Event.Yield wait) h w es ≡ Goes v → is_some v.core.wait ≡ true
  yield_waits set wait h w [] v q = absurd (used≢goes q)
  yield_waits set wait h w (e ∷ es) v q =
      let s = goes_so ((e.kernel == 0) && is_event (Event.Yield wait) e.event) (post set h w e es) v q in
      let t = stepped set h w e es v s.1 in
      ap (λ c. is_some c.wait) t.core ∙ ap (λ f. is_some (wait_after w.core.wait f.event)) (is_entry (Event.Yield wait) e s.0)

  wait_alike : (set : Setup) (d : Definitions) (wait : Wait) (w x : Walk) (r s : List Tree × Walk) → Alike w x → Sounds set w
      → wait_for set d wait w ≡ Goes r → wait_for set d wait x ≡ Goes s → Fine set r.1 → Fine set s.1 → AlikePair r s
  wait_alike set d wait w x r s a sound q p fine fine' =
      let one = gone (master_posts set (Event.Yield wait) (Handed.Lent d) w) (λ v. until_resume set v v.rest) r q in
      let two = gone (master_posts set (Event.Yield wait) (Handed.Lent d) x) (λ v. until_resume set v v.rest) s p in
      until_alike set one.0 two.0 (one.0).rest (two.0).rest r s (master_alike set (Event.Yield wait) (Handed.Lent d) w x one.0 two.0 a one.1 two.1)
      (Kept.master_good set (Right set) (right_post set) (Event.Yield wait) (Handed.Lent d) w one.0 sound one.1)
      (yield_waits set wait (Handed.Lent d) w w.rest one.0 one.1) one.2 two.2 fine fine'

  -- ---- submitting

  numbered : Walk → List ℕ × Walk → List ℕ × Walk
  numbered w s = (suc (length w.core.items) ∷ s.0, s.1)

  submit_same : (set : Setup) (d : Definitions) (is : List Item) (w x : Walk) (r s : List ℕ × Walk) → w.core ≡ x.core → Alike w x
      → submit_all set d is w ≡ Goes r → submit_all set d is x ≡ Goes s → AlikePair r s
  submit_same set d [] w x r s c a q p = subst (λ y. AlikePair y s) (goes_is q) (subst (λ y. AlikePair ([], w) y) (goes_is p) (refl, a))
  submit_same set d (i ∷ is) w x r s c a q p =
      let event : Event = Event.Submit (suc (length x.core.items)) in
      let handed : Handed = Handed.Given i (bundle set.names d (seeds_of i)) in
      let q' = aligned (submit_all set d (i ∷ is)) w x r a q in
      let one = gone (master_posts set event handed (over w x)) (λ v. going (submit_all set d is v) (λ y. Goes (suc (length x.core.items) ∷ y.0, y.1))) r q' in
      let two = gone (master_posts set event handed x) (λ v. going (submit_all set d is v) (λ y. Goes (suc (length x.core.items) ∷ y.0, y.1))) s p in
      let alike = master_alike set event handed (over w x) x one.0 two.0 (over_alike w x) one.1 two.1 in
      let left = gone (submit_all set d is one.0) (λ y. Goes (suc (length x.core.items) ∷ y.0, y.1)) r one.2 in
      let right = gone (submit_all set d is two.0) (λ y. Goes (suc (length x.core.items) ∷ y.0, y.1)) s two.2 in
      let rest = submit_same set d is one.0 two.0 left.0 right.0 alike.core alike left.1 right.1 in
      let ids : List ℕ = suc (length x.core.items) ∷ (left.0).0 in
      let ids' : List ℕ = suc (length x.core.items) ∷ (right.0).0 in
      subst (λ y. AlikePair y s) (goes_is left.2) (subst (λ y. AlikePair (ids, (left.0).1) y) (goes_is right.2) (ap (λ ns. suc (length x.core.items) ∷ ns) rest.0, rest.1))

  -- ---- calls

  record AlikeAnswers (a b : Answered) : Type 0 where
    reply : a.reply ≡ b.reply
    after : a.after ≡ b.after
    walk : Alike a.walk b.walk

  ends_alike : {a a' b b' : Answered} → ◌≡◌ {A = Course Answered} (Goes a) (Goes a') → ◌≡◌ {A = Course Answered} (Goes b) (Goes b') → AlikeAnswers a b → AlikeAnswers a' b'
  ends_alike {a' = a'} {b = b} e f h = subst (λ y. AlikeAnswers a' y) (goes_is f) (subst (λ y. AlikeAnswers y b) (goes_is e) h)

  replied_alike : (v u : Tree) (d e : Definitions) (o o' : Course Walk) (a b : Answered) → v ≡ u → d ≡ e → ((w x : Walk) → o ≡ Goes w → o' ≡ Goes x → Alike w x)
      → replied v d o ≡ Goes a → replied u e o' ≡ Goes b → AlikeAnswers a b
  replied_alike v u d e o o' a b same same' h q p =
      let one = gone o (λ w. Goes (made v d w)) a q in
      let two = gone o' (λ w. Goes (made u e w)) b p in
      ends_alike one.2 two.2 (record { reply = ap Reply.Replied same; after = same'; walk = h one.0 two.0 one.1 two.1 })
    where
      made : Tree → Definitions → Walk → Answered
      made v' d' w = record { reply = Reply.Replied v'; after = d'; walk = w }

  by_next_alike : (set : Setup) (d : Definitions) (n : Next) (w x : Walk) (a b : Answered) → Alike w x → Sounds set w
      → by_next set d n w ≡ Goes a → by_next set d n x ≡ Goes b → Fine set a.walk → Fine set b.walk → AlikeAnswers a b
  by_next_alike set d (Replies reply) w x a b al sound q p fine fine' = ends_alike q p (record { reply = refl; after = refl; walk = al })
  by_next_alike set d (Awaits wait k) w x a b al sound q p fine fine' =
      let one = gone (wait_for set d wait w) (λ r. Goes (made r)) a q in
      let two = gone (wait_for set d wait x) (λ r. Goes (made r)) b p in
      let pair = wait_alike set d wait w x one.0 two.0 al sound one.1 two.1 (subst (λ y. Fine set y.walk) (sym (goes_is one.2)) fine) (subst (λ y. Fine set y.walk) (sym (goes_is two.2)) fine') in
      ends_alike one.2 two.2 (record { reply = ap k pair.0; after = ap (λ c. c.definitions) (pair.1).core; walk = pair.1 })
    where
      made : List Tree × Walk → Answered
      made r = record { reply = k r.0; after = (r.1).core.definitions; walk = r.1 }

  by_form_alike : (set : Setup) (d : Definitions) (f : Form) (w x : Walk) (a b : Answered) → Alike w x → Sounds set w
      → by_form set d f w ≡ Goes a → by_form set d f x ≡ Goes b → Fine set a.walk → Fine set b.walk → AlikeAnswers a b
  by_form_alike set d (Answers reply after) w x a b al sound q p fine fine' = ends_alike q p (record { reply = refl; after = refl; walk = al })
  by_form_alike set d (Submits items k) w x a b al sound q p fine fine' =
      let one = gone (submit_all set d items w) (λ r. by_next set d (k r.0) r.1) a q in
      let two = gone (submit_all set d items x) (λ r. by_next set d (k r.0) r.1) b p in
      let pair = submit_same set d items w x one.0 two.0 al.core al one.1 two.1 in
      by_next_alike set d (k (one.0).0) (one.0).1 (two.0).1 a b pair.1 (Kept.submit_good set (Right set) (right_post set) d items w one.0 sound one.1)
      one.2 (subst (λ ids. by_next set d (k ids) (two.0).1 ≡ Goes b) (sym pair.0) two.2) fine fine'

  one_alike : (set : Setup) (v : Tree) (d : Definitions) (event : Event) (w x : Walk) (a b : Answered) → Alike w x
      → replied v d (master_posts set event Handed.Nothing w) ≡ Goes a → replied v d (master_posts set event Handed.Nothing x) ≡ Goes b → AlikeAnswers a b
  one_alike set v d event w x a b al q p =
      replied_alike v v d d (master_posts set event Handed.Nothing w) (master_posts set event Handed.Nothing x) a b refl refl (λ u y. master_alike set event Handed.Nothing w x u y al) q p

  enter_same : (set : Setup) (d : Definitions) (ls : List Sym) (w x : Walk) (a b : Answered) (free : Bool) → Alike w x → Sounds set w
      → elim free [ true ↦ replied (null set.names) d (master_posts set (Event.Enter ls) Handed.Nothing w) | false ↦ going (wait_for set d (Wait.Locks ls) w) (λ r. replied (null set.names) (r.1).core.definitions (master_posts set (Event.Enter ls) Handed.Nothing r.1)) ] ≡ Goes a
      → elim free [ true ↦ replied (null set.names) d (master_posts set (Event.Enter ls) Handed.Nothing x) | false ↦ going (wait_for set d (Wait.Locks ls) x) (λ r. replied (null set.names) (r.1).core.definitions (master_posts set (Event.Enter ls) Handed.Nothing r.1)) ] ≡ Goes b
      → Fine set a.walk → Fine set b.walk → AlikeAnswers a b
  enter_same set d ls w x a b true al sound q p fine fine' = one_alike set (null set.names) d (Event.Enter ls) w x a b al q p
  enter_same set d ls w x a b false al sound q p fine fine' =
      let one = gone (wait_for set d (Wait.Locks ls) w) later a q in
      let two = gone (wait_for set d (Wait.Locks ls) x) later b p in
      let pair = wait_alike set d (Wait.Locks ls) w x one.0 two.0 al sound one.1 two.1 (mid (one.0).1 a one.2 fine) (mid (two.0).1 b two.2 fine') in
      replied_alike (null set.names) (null set.names) ((one.0).1).core.definitions ((two.0).1).core.definitions
      (master_posts set (Event.Enter ls) Handed.Nothing (one.0).1) (master_posts set (Event.Enter ls) Handed.Nothing (two.0).1) a b refl (ap (λ c. c.definitions) (pair.1).core)
      (λ u y. master_alike set (Event.Enter ls) Handed.Nothing (one.0).1 (two.0).1 u y pair.1) one.2 two.2
    where
      entered : Walk → Course Answered
      entered v = replied (null set.names) v.core.definitions (master_posts set (Event.Enter ls) Handed.Nothing v)

      later : List Tree × Walk → Course Answered
      later r = entered r.1

      mid : (v : Walk) (c : Answered) → entered v ≡ Goes c → Fine set c.walk → Fine set v
      mid v c e f =
          fine_before set v c.walk
          (Kept.replied_good set (Begun v.posted) (begun_post set v.posted) (null set.names) v.core.definitions (Event.Enter ls) v c (begun_at v) e) f

  answer_same : (set : Setup) (c : Call) (d : Definitions) (w x : Walk) (a b : Answered) → w.core ≡ x.core → Alike w x → Sounds set w
      → answer set c d w ≡ Goes a → answer set c d x ≡ Goes b → Fine set a.walk → Fine set b.walk → AlikeAnswers a b
  answer_same set c d w x a b core al sound q p fine fine' =
      go c (aligned (answer set c d) w x a al q) p
    where
      sound' : Sounds set (over w x)
      sound' = sound_over set w x al sound

      go : (c' : Call) → answer set c' d (over w x) ≡ Goes a → answer set c' d x ≡ Goes b → AlikeAnswers a b
      go (Call.Sends Request.Count) q' p' = one_alike set (integer (pos (count x.core))) d (Event.Ask (count x.core)) (over w x) x a b (over_alike w x) q' p'
      go (Call.Sends (Request.Print t)) q' p' = one_alike set (null set.names) d (Event.Print t) (over w x) x a b (over_alike w x) q' p'
      go Call.Leave q' p' = one_alike set (null set.names) d Event.Leave (over w x) x a b (over_alike w x) q' p'
      go (Call.Enter ls) q' p' = enter_same set d ls (over w x) x a b (all_free x.core ls) (over_alike w x) sound' q' p' fine fine'
      go (Call.Sends (Request.Outside e)) q' p' = by_form_alike set d (form set x.core d e) (over w x) x a b (over_alike w x) sound' q' p' fine fine'
      go (Call.Sends (Request.Access e)) q' p' = absurd (no_entry≢goes (over w x) w.rest a q')

  play_alike : (set : Setup) (t : Play) (w x : Walk) (r s : Finish × Walk) → Alike w x → Sounds set w
      → play_along set t w ≡ Goes r → play_along set t x ≡ Goes s → Fine set r.1 → Fine set s.1 → AlikePair r s
  play_alike set (Over end here) w x r s al sound q p fine fine' =
      subst (λ y. AlikePair y s) (goes_is q) (subst (λ y. AlikePair (record { end = end; state = here }, w) y) (goes_is p) (refl, al))
  play_alike set (Calls c here k) w x r s al sound q p fine fine' =
      let one = gone (answer set c here.definitions w) (λ a. play_along set (k a.reply a.after) a.walk) r q in
      let two = gone (answer set c here.definitions x) (λ a. play_along set (k a.reply a.after) a.walk) s p in
      let fine_one = fine_before set (one.0).walk r.1 (Kept.play_good set (Begun (one.0).walk.posted) (begun_post set (one.0).walk.posted) (k (one.0).reply (one.0).after) (one.0).walk r (begun_at (one.0).walk) one.2) fine in
      let fine_two = fine_before set (two.0).walk s.1 (Kept.play_good set (Begun (two.0).walk.posted) (begun_post set (two.0).walk.posted) (k (two.0).reply (two.0).after) (two.0).walk s (begun_at (two.0).walk) two.2) fine' in
      let answers = answer_same set c here.definitions w x one.0 two.0 al.core al sound one.1 two.1 fine_one fine_two in
      play_alike set (k (one.0).reply (one.0).after) (one.0).walk (two.0).walk r s answers.walk (Kept.answer_good set (Right set) (right_post set) c here.definitions w one.0 sound one.1) one.2
      (subst (λ t. play_along set t (two.0).walk ≡ Goes s) (λ i. k (sym answers.reply i) (sym answers.after i)) two.2) fine fine'

  -- ---- cells

  record AlikeRuns (a b : Ran) : Type 0 where
    walk : Alike a.walk b.walk
    definitions : a.definitions ≡ b.definitions

  runs_alike : {a a' b b' : Ran} → ◌≡◌ {A = Course Ran} (Goes a) (Goes a') → ◌≡◌ {A = Course Ran} (Goes b) (Goes b') → AlikeRuns a b → AlikeRuns a' b'
  runs_alike {a' = a'} {b = b} e f h = subst (λ y. AlikeRuns a' y) (goes_is f) (subst (λ y. AlikeRuns y b) (goes_is e) h)

  walked_alike : (set : Setup) (n : ℕ) (e : Tree) (f g a b : Ran) → AlikeRuns f g → Sounds set f.walk
      → going (play_along set (whole (in_mode set Mode.Cell 0) f.definitions e) f.walk) (λ s. Goes (after_cell set n f s)) ≡ Goes a
      → going (play_along set (whole (in_mode set Mode.Cell 0) g.definitions e) g.walk) (λ s. Goes (after_cell set n g s)) ≡ Goes b
      → Fine set a.walk → Fine set b.walk → AlikeRuns a b
  walked_alike set n e f g a b al sound q p fine fine' =
      let one = gone (play_along set (whole (in_mode set Mode.Cell 0) f.definitions e) f.walk) (λ s. Goes (after_cell set n f s)) a q in
      let two = gone (play_along set (whole (in_mode set Mode.Cell 0) g.definitions e) g.walk) (λ s. Goes (after_cell set n g s)) b p in
      let two' : play_along set (whole (in_mode set Mode.Cell 0) f.definitions e) g.walk ≡ Goes (two.0) = subst (λ d. play_along set (whole (in_mode set Mode.Cell 0) d e) g.walk ≡ Goes (two.0)) (sym al.definitions) two.1 in
      let pair = play_alike set (whole (in_mode set Mode.Cell 0) f.definitions e) f.walk g.walk one.0 two.0 al.walk sound one.1 two' (subst (λ y. Fine set y.walk) (sym (goes_is one.2)) fine) (subst (λ y. Fine set y.walk) (sym (goes_is two.2)) fine') in
      runs_alike one.2 two.2 (record { walk = pair.1; definitions = ap (λ r. r.state.definitions) pair.0 })

  cell_alike : (set : Setup) (n : ℕ) (c : Reading) (f g a b : Ran) → AlikeRuns f g → Sounds set f.walk → run_cell set n c f ≡ Goes a → run_cell set n c g ≡ Goes b
      → Fine set a.walk → Fine set b.walk → AlikeRuns a b
  cell_alike set n (Unread at) f g a b al sound q p fine fine' = runs_alike q p (record { walk = al.walk; definitions = al.definitions })
  cell_alike set n (Reads e) f g a b al sound q p fine fine' = go (ltb set.limits.depth (depth e)) q p
    where
      deep : Ran → Ran
      deep x = record x { lines = x.lines ++ out_line set.names n (aborted set.names) }

      go : (k : Bool)
          → elim k [ true ↦ Goes (deep f) | false ↦ going (play_along set (whole (in_mode set Mode.Cell 0) f.definitions e) f.walk) (λ s. Goes (after_cell set n f s)) ] ≡ Goes a
          → elim k [ true ↦ Goes (deep g) | false ↦ going (play_along set (whole (in_mode set Mode.Cell 0) g.definitions e) g.walk) (λ s. Goes (after_cell set n g s)) ] ≡ Goes b → AlikeRuns a b
      go true q' p' = runs_alike q' p' (record { walk = al.walk; definitions = al.definitions })
      go false q' p' = walked_alike set n e f g a b al sound q' p' fine fine'

  cells_alike : (set : Setup) (n : ℕ) (cs : List Reading) (f g a b : Ran) → AlikeRuns f g → Sounds set f.walk → run_cells set n cs f ≡ Goes a → run_cells set n cs g ≡ Goes b
      → Fine set a.walk → Fine set b.walk → AlikeRuns a b
  cells_alike set n [] f g a b al sound q p fine fine' = runs_alike q p al
  cells_alike set n (c ∷ cs) f g a b al sound q p fine fine' =
      let one = gone (run_cell set n c f) (λ r. run_cells set (suc n) cs r) a q in
      let two = gone (run_cell set n c g) (λ r. run_cells set (suc n) cs r) b p in
      let first = cell_alike set n c f g one.0 two.0 al sound one.1 two.1 (mid one.0 a one.2 fine) (mid two.0 b two.2 fine') in
      cells_alike set (suc n) cs one.0 two.0 a b first (Kept.cell_good set (Right set) (right_post set) n c f one.0 sound one.1) one.2 two.2 fine fine'
    where
      mid : (r z : Ran) → run_cells set (suc n) cs r ≡ Goes z → Fine set z.walk → Fine set r.walk
      mid r z e h = fine_before set r.walk z.walk (Kept.cells_good set (Begun r.walk.posted) (begun_post set r.walk.posted) (suc n) cs r z (begun_at r.walk) e) h

  -- ---- the whole

  -- nobody is lost
  no_loss : (set : Setup) (w : Walk) (es : List Entry) (v : Walk) → Sounds set w → first_losses set w es ≡ Goes v → w ≡ v
  no_loss set w [] v sound q = goes_is q
  no_loss set w (e ∷ es) v sound q = go (is_loss e.event) refl q
    where
      lost : (event : Event) → is_loss event ≡ true → permitted set w.core Handed.Nothing 0 event ≡ true → ⊥
      lost (Event.Lose cause) h ok = true≢false (sym ok)
      lost _ h ok = true≢false (sym h)

      go : (b : Bool) → is_loss e.event ≡ b → elim b [ true ↦ going (post set Handed.Nothing w e es) (λ u. first_losses set u es) | false ↦ Goes w ] ≡ Goes v → w ≡ v
      go true b q' =
          let one = gone (post set Handed.Nothing w e es) (λ u. first_losses set u es) v q' in
          let s = stepped set Handed.Nothing w e es one.0 one.1 in
          let permits : permitted set w.core Handed.Nothing e.kernel e.event ≡ true = (both (not w.core.closed && _) (permitted set w.core Handed.Nothing e.kernel e.event) s.ok).1 in
          let zero' = by_master set w.core Handed.Nothing e.kernel e.event sound.lone permits in
          absurd (lost e.event b (subst (λ k. permitted set w.core Handed.Nothing k e.event ≡ true) zero' permits))
      go false b q' = goes_is q'

  sound_start : (set : Setup) → set.kernels ≡ 0 → Sound set (start set) []
  sound_start set none =
      record {
        lone = record { row = new_kernel false; rows = ap (λ n. new_kernel false ∷ replicate n (new_kernel true)) none; dead = refl };
        synced = λ v r. subst (λ x. Synced x.phase None) (some_is r) refl;
      }

  record Whole (set : Setup) (cells : List Reading) (journal : List Entry) (ps : List Posted) : Type 0 where
    ran : Ran
    last : Walk
    runs : run_cells set 1 (take (length cells) cells) (record { walk = first_walk set journal; definitions = empty; lines = [] }) ≡ Goes ran
    closed : master_posts set Event.Close Handed.Nothing ran.walk ≡ Goes last
    all : last.posted ≡ ps

  taken_apart : (set : Setup) (cells : List Reading) (journal : List Entry) (ps : List Posted) → set.kernels ≡ 0 → posted_by set cells journal ≡ Some ps → Whole set cells journal ps
  taken_apart set cells journal ps none q =
      let f = opened (arrived (whole_run set cells journal)) (λ w. Some w.posted) ps q in
      let s = gone (run_along set cells journal (length cells)) (λ ran. closes set ran.walk) f.0 (arrived_is (whole_run set cells journal) f.0 f.1) in
      let u = gone (master_posts set Event.Close Handed.Nothing (s.0).walk) (λ v. or_differs (is_over v.rest) (Goes v)) f.0 s.2 in
      let v = goes_so (is_over (u.0).rest) (Goes (u.0)) f.0 u.2 in
      let l = gone (first_losses set (first_walk set journal) journal) (λ w. run_cells set 1 (take (length cells) cells) (record { walk = w; definitions = empty; lines = [] })) s.0 s.1 in
      record {
        ran = s.0;
        last = u.0;
        runs = subst (λ w. run_cells set 1 (take (length cells) cells) (record { walk = w; definitions = empty; lines = [] }) ≡ Goes (s.0)) (sym (no_loss set (first_walk set journal) journal l.0 (sound_start set none) l.1)) l.2;
        closed = u.1;
        all = ap (λ w. w.posted) (goes_is v.1) ∙ some_is f.2;
      }

  record Found (set : Setup) (cells : List Reading) (journal : List Entry) : Type 0 where
    posted : List Posted
    is_whole : posted_by set cells journal ≡ Some posted
    seen : Seen set posted

  is_true : (b : Bool) → T b → b ≡ true
  is_true true h = refl
  is_true false h = absurd h

  a_view : {A : Type 0} (o : Option A) → is_some o ≡ true → (a : A) × (o ≡ Some a)
  a_view None h = absurd (true≢false (sym h))
  a_view (Some a) h = (a, refl)

  found : (set : Setup) (cells : List Reading) (journal : List Entry) → set.kernels ≡ 0 → T (legal set plan cells journal) → Found set cells journal
  found set cells journal none h = go (posted_by set cells journal) refl h
    where
      go : (o : Option (List Posted)) → posted_by set cells journal ≡ o → T (kernels_run set plan o) → Found set cells journal
      go None e h' = absurd h'
      go (Some ps) e h' = record { posted = ps; is_whole = e; seen = a_view (kernel_run set plan 0 ps) (is_true _ (subst (λ n. T (all_run set plan n ps)) none h')) }

  pub one_journal : (set : Setup) (cells : List Reading) (h j : List Entry) → set.kernels ≡ 0 → T (legal set plan cells h) → T (legal set plan cells j) → h ≡ j
  one_journal set cells h j none legal_h legal_j =
      let f = found set cells h none legal_h in
      let g = found set cells j none legal_j in
      let a = taken_apart set cells h f.posted none f.is_whole in
      let b = taken_apart set cells j g.posted none g.is_whole in
      let first = sound_start set none in
      let runs = cells_alike set 1 (take (length cells) cells) (record { walk = first_walk set h; definitions = empty; lines = [] }) (record { walk = first_walk set j; definitions = empty; lines = [] }) a.ran b.ran
      (record { walk = record { core = refl; posted = refl }; definitions = refl }) first a.runs b.runs (fine_at a.ran a.last f.posted a.closed a.all f.seen) (fine_at b.ran b.last g.posted b.closed b.all g.seen) in
      let ends = master_alike set Event.Close Handed.Nothing a.ran.walk b.ran.walk a.last b.last runs.walk a.closed b.closed in
      sym (Replayed.whole_good set h cells f.posted f.is_whole).0 ∙ ap entries_of (sym a.all ∙ ends.posted ∙ b.all) ∙ (Replayed.whole_good set j cells g.posted g.is_whole).0
    where
      fine_at : (r : Ran) (e : Walk) (ps : List Posted) → master_posts set Event.Close Handed.Nothing r.walk ≡ Goes e → e.posted ≡ ps → Seen set ps → Fine set r.walk
      fine_at r e ps closed all seen =
          fine_before set r.walk e (Kept.master_good set (Begun r.walk.posted) (begun_post set r.walk.posted) Event.Close Handed.Nothing r.walk e (begun_at r.walk) closed) (subst (Seen set) (sym all) seen)
