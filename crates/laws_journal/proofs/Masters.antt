-- The master's open section is what kernel 0 holds.
use Rattle.std.proofs.Common.{◌≡◌, refl, sym, ap, subst, ◌∙◌, ℕ, suc, Bool, true, false, List, [], ◌∷◌, ◌++◌, length, Option, Some, None, T, true≢false, eqb-true}
use Rattle.std.specs.Prelude.{◌&&◌, not, ◌==◌, is_some, pos}
use Rattle.expr_tree.specs.declared.sym.Sym.{Sym}
use Rattle.expr_tree.specs.Tree.{Tree, integer}
use Rattle.semantics.specs.Definitions.{Definitions, is_empty}
use Rattle.semantics.specs.Program.{Request, Call, Mode}
use Rattle.semantics.specs.Play.{Reply, Play, Over, Calls, whole}
use Rattle.semantics.specs.Opened.{opens, may_call, Orderly, ended, called}
use Rattle.semantics.proofs.Opened.{sections_in_order}
use Rattle.journal.specs.Places.{nth, change_at, given, is_some as there}
use Rattle.journal.specs.Closure.{bundle}
use Rattle.journal.specs.declared.event.Wait.{Wait}
use Rattle.journal.specs.declared.event.Event.{Event}
use Rattle.journal.specs.declared.event.Entry.{Entry}
use Rattle.journal.specs.declared.item.Item.{Item}
use Rattle.journal.specs.Entry.{Posted, Handed}
use Rattle.journal.specs.Core.{Setup, Core, Kernel, null, replay, no_wait, holds_nothing, has_attempt, condition_holds, all_free, count, permitted, allowed, kernel_after, wait_after, wait_reply, effect, in_mode}
use Rattle.journal.specs.Follow.{Plan, Phase, Free, At, Lost, View, stand_in_entry, with_handed, watch, kernel_run, KernelRun}
use Rattle.journal.specs.Forms.{Next, Replies, Awaits, Form, Answers, Submits, form}
use Rattle.journal.specs.Run.{Walk, Course, Goes, going, post, post_next, master_posts, is_event, is_resume, until_resume, wait_for, seeds_of, submit_all, Answered, replied, by_next, by_form, enter, answer, Finish, play_along}
use Rattle.laws_journal.specs.Laws.{entries_of}
use Rattle.laws_journal.specs.Masters.{AtRest, CallsKeepSections, CellsKeepSections}
use Rattle.laws_journal.proofs.Tables.{both, is_not, none≢some, change_same}
use Rattle.laws_journal.proofs.Courses.{goes_is, used≢goes, no_entry≢goes, gone, goes_so}
use Rattle.laws_journal.proofs.Forced.{Synced}
use Rattle.laws_journal.proofs.Kept as Kept
use Rattle.laws_journal.proofs.Replayed.{post_good}
use Rattle.laws_journal.proofs.Insides.{holds_some}
use Rattle.laws_journal.proofs.StandIn.{Placed, placed}
use Rattle.laws_journal.proofs.Steps.{steps_view}
use Rattle.laws_journal.proofs.Unique.{Step, stepped, is_entry, Begun, begun_post, begun_at, Seen, seen_before}
use Rattle.laws_journal.proofs.Waiting.{Stands, Point, one_point}

module _ (set : Setup) (plan : Plan) where
  -- ---- one post

  pub posted_folds : (h : Handed) (w : Walk) (e : Entry) (es : List Entry) (v : Walk) → replay set w.posted ≡ Some w.core → post set h w e es ≡ Goes v → replay set v.posted ≡ Some v.core
  posted_folds h w e es v folds q = (post_good set (entries_of w.posted ++ e ∷ es) h w e es v (record { all = refl; folds = folds }) q).folds

  -- what the master's entry makes of its section, where it begins or ends no wait
  abbrev pub Turns : Event → Bool → Bool → Type 0
  Turns (Event.Submit id) i a = i ≡ a
  Turns (Event.Ask n) i a = i ≡ a
  Turns (Event.Print t) i a = i ≡ a
  Turns (Event.Enter ls) i a = true ≡ a
  Turns Event.Leave i a = false ≡ a
  Turns _ i a = ⊥

  abbrev holding : Option Kernel → Bool
  holding o = not (is_empty (elim o [ None ↦ [] | Some x ↦ x.locks ]))

  turned_locks : (c : Core) (h : Handed) (e : Event) (i a : Bool) (row : Kernel) → permitted set c h 0 e ≡ true → Turns e i a → holds_some row ≡ i → holds_some (kernel_after e row) ≡ a
  turned_locks c h (Event.Submit id) i a row ok t s = s ∙ t
  turned_locks c h (Event.Ask n) i a row ok t s = s ∙ t
  turned_locks c h (Event.Print x) i a row ok t s = s ∙ t
  turned_locks c h (Event.Enter ls) i a row ok t s = (both _ _ (both _ _ (both _ _ ok).0).0).1 ∙ t
  turned_locks c h Event.Leave i a row ok t s = t
  turned_locks c h _ i a row ok t s = absurd t

  turned_wait : (c : Core) (p : Posted) (i a : Bool) → Turns p.entry.event i a → no_wait c ≡ true → no_wait (effect set c p) ≡ true
  turned_wait c p i a t free = go p.entry.event t
    where
      go : (e : Event) → Turns e i a → not (there (wait_after c.wait e)) ≡ true
      go (Event.Submit id) t' = free
      go (Event.Ask n) t' = free
      go (Event.Print x) t' = free
      go (Event.Enter ls) t' = free
      go Event.Leave t' = free
      go _ t' = absurd t'

  passes_by : (v : View) (d : Definitions) (e : Event) (i a : Bool) → Turns e i a → stand_in_entry set v (Free d) e ≡ Some (Free d)
  passes_by v d (Event.Submit id) i a t = refl
  passes_by v d (Event.Ask n) i a t = refl
  passes_by v d (Event.Print x) i a t = refl
  passes_by v d (Event.Enter ls) i a t = refl
  passes_by v d Event.Leave i a t = refl
  passes_by v d _ i a t = absurd t

  -- the view after an entry of kernel 0 that leaves it between attempts
  abbrev next_view : View → Posted → Definitions → View
  next_view v p d = record { items = with_handed p.entry.event p.handed v.items; own = suc v.own; phase = Free d }

  seen_next : (ps : List Posted) (p : Posted) (v : View) (d : Definitions) → kernel_run set plan 0 ps ≡ Some v → v.phase ≡ Free d → p.entry.kernel ≡ 0 → stand_in_entry set v (Free d) p.entry.event ≡ Some (Free d)
      → kernel_run set plan 0 (ps ++ p ∷ []) ≡ Some (next_view v p d)
  seen_next ps p v d seen at zero' passes =
      steps_view set plan 0 ps p v seen
      ∙ (ap (λ k. elim (k == 0) [ false ↦ Some (record v { items = with_handed p.entry.event p.handed v.items }) | true ↦ given (stand_in_entry set v v.phase p.entry.event) after ]) zero'
      ∙ ap (λ o. given o after) (ap (λ x. stand_in_entry set v x p.entry.event) at ∙ passes))
    where
      after : Phase → Option View
      after phase = Some (record { items = with_handed p.entry.event p.handed v.items; own = suc v.own; phase = phase })

  row_after : (c : Core) (p : Posted) (row : Kernel) → p.entry.kernel ≡ 0 → nth c.kernels 0 ≡ Some row → nth (effect set c p).kernels 0 ≡ Some (kernel_after p.entry.event row)
  row_after c p row zero' at =
      subst (λ j. nth (change_at j (kernel_after p.entry.event) c.kernels) 0 ≡ Some (kernel_after p.entry.event row)) (sym zero')
      (change_same 0 (kernel_after p.entry.event) c.kernels row at)

  -- the row of kernel 0 at rest
  at_row : {i : Bool} (w : Walk) (r : AtRest set plan i w) → Placed w.core r.view
  at_row w r = placed set plan w.posted w.core r.view r.folds r.seen

  rest_holds : {i : Bool} (w : Walk) (r : AtRest set plan i w) → holds_some (at_row w r).row ≡ i
  rest_holds w r = sym (ap holding (at_row w r).at) ∙ r.holds

  -- the master's next entry, taken apart
  pub record Next' (event : Event) (h : Handed) (w v : Walk) : Type 0 where
    pub entry : Entry
    pub rest : List Entry
    pub is : entry ≡ record { kernel = 0; event = event }
    pub goes : post set h w entry rest ≡ Goes v

  pub next_of : (event : Event) (h : Handed) (w v : Walk) (es : List Entry) → post_next set event h w es ≡ Goes v → Next' event h w v
  next_of event h w v [] q = absurd (used≢goes q)
  next_of event h w v (e ∷ es) q =
      let s = goes_so ((e.kernel == 0) && is_event event e.event) (post set h w e es) v q in
      record { entry = e; rest = es; is = is_entry plan event e s.0; goes = s.1 }

  pub turned : (event : Event) (h : Handed) (i a : Bool) (w v : Walk) → AtRest set plan i w → Turns event i a → master_posts set event h w ≡ Goes v → AtRest set plan a v
  turned event h i a w v r t q =
      let n = next_of event h w v w.rest q in
      let s = stepped plan set h w n.entry n.rest v n.goes in
      let p : Posted = record { entry = n.entry; handed = h } in
      let zero' : n.entry.kernel ≡ 0 = ap (λ e. e.kernel) n.is in
      let same : n.entry.event ≡ event = ap (λ e. e.event) n.is in
      let t' : Turns n.entry.event i a = subst (λ e. Turns e i a) (sym same) t in
      let permits : permitted set w.core h 0 n.entry.event ≡ true = subst (λ k. permitted set w.core h k n.entry.event ≡ true) zero' (both _ _ s.ok).1 in
      let row = at_row w r in
      record {
        folds = posted_folds h w n.entry n.rest v r.folds n.goes;
        free = ap no_wait s.core ∙ turned_wait w.core p i a t' r.free;
        holds =
            ap (λ c. not (holds_nothing c 0)) s.core
            ∙ (ap holding (row_after w.core p row.row zero' row.at) ∙ turned_locks w.core h n.entry.event i a row.row permits t' (rest_holds w r));
        view = next_view r.view p r.known;
        seen = ap (kernel_run set plan 0) s.posted ∙ seen_next w.posted p r.view r.known r.seen r.phase zero' (passes_by r.view r.known n.entry.event i a t');
        known = r.known;
        phase = refl;
      }

  -- ---- waits

  pub record Within (i : Bool) (w : Walk) : Type 0 where
    pub folds : replay set w.posted ≡ Some w.core
    pub view : View
    pub seen : kernel_run set plan 0 w.posted ≡ Some view
    pub point : Point i w.core view

  stands_free : (i : Bool) (d : Definitions) (row : Kernel) → holds_some row ≡ i → Stands i (Free d) row
  stands_free true d row h = (h, refl)
  stands_free false d row h = h

  stands_at_end : (i : Bool) (d : Definitions) (row : Kernel) → Stands i (Free d) row → holds_some row ≡ i
  stands_at_end true d row h = h.0
  stands_at_end false d row h = h

  pub yields : (wait : Wait) (h : Handed) (i : Bool) (w v : Walk) → AtRest set plan i w → master_posts set (Event.Yield wait) h w ≡ Goes v → Within i v
  yields wait h i w v r q =
      let n = next_of (Event.Yield wait) h w v w.rest q in
      let s = stepped plan set h w n.entry n.rest v n.goes in
      let p : Posted = record { entry = n.entry; handed = h } in
      let zero' : n.entry.kernel ≡ 0 = ap (λ e. e.kernel) n.is in
      let same : n.entry.event ≡ Event.Yield wait = ap (λ e. e.event) n.is in
      let row = at_row w r in
      let free : row.row.attempt ≡ None = subst (λ x. Synced x row.row.attempt) r.phase row.synced in
      record {
        folds = posted_folds h w n.entry n.rest v r.folds n.goes;
        view = next_view r.view p r.known;
        seen = ap (kernel_run set plan 0) s.posted ∙ seen_next w.posted p r.view r.known r.seen r.phase zero' (subst (λ e. stand_in_entry set r.view (Free r.known) e ≡ Some (Free r.known)) (sym same) refl);
        point = subst (λ c. Point i c (next_view r.view p r.known)) (sym s.core) (record {
          waits = ap (λ e. there (wait_after w.core.wait e)) same;
          row = row.row;
          at = row_after w.core p row.row zero' row.at ∙ ap (λ e. Some (kernel_after e row.row)) same;
          synced = free;
          stands = stands_free i r.known row.row (rest_holds w r);
        });
      }

  -- one entry more, whoever posts it
  pub seen_one : (h : Handed) (w : Walk) (e : Entry) (es : List Entry) (v : Walk) (x : View) → kernel_run set plan 0 w.posted ≡ Some x → post set h w e es ≡ Goes v → Seen plan set v.posted
      → (u : View) × (kernel_run set plan 0 v.posted ≡ Some u) × (watch set plan 0 x (record { entry = e; handed = h }) ≡ Some u)
  seen_one h w e es v x seen q fine =
      let s = stepped plan set h w e es v q in
      (fine.0, fine.1, sym (steps_view set plan 0 w.posted (record { entry = e; handed = h }) x seen) ∙ (ap (kernel_run set plan 0) (sym s.posted) ∙ fine.1))

  pub goes_further : (i : Bool) (w : Walk) (e : Entry) (es : List Entry) (v : Walk) → Within i w → is_resume e.event ≡ false → post set Handed.Nothing w e es ≡ Goes v → Seen plan set v.posted → Within i v
  goes_further i w e es v here n q fine =
      let s = stepped plan set Handed.Nothing w e es v q in
      let t = seen_one Handed.Nothing w e es v here.view here.seen q fine in
      record {
        folds = posted_folds Handed.Nothing w e es v here.folds q;
        view = t.0;
        seen = t.1;
        point = subst (λ c. Point i c t.0) (sym s.core) (one_point set plan i w.core (record { entry = e; handed = Handed.Nothing }) here.view t.0 s.ok n t.2 here.point);
      }

  permits_in : (c : Core) (p : Posted) → allowed set c p ≡ true → permitted set c p.handed p.entry.kernel p.entry.event ≡ true
  permits_in c p ok = (both _ _ ok).1

  resume_guard : (c : Core) (h : Handed) (k : ℕ) → permitted set c h k Event.Resume ≡ true → (k ≡ 0) × (has_attempt c 0 ≡ false)
  resume_guard c h k ok =
      let parts = both ((k == 0) && condition_holds set.names c) (not (has_attempt c 0)) ok in
      (eqb-true k 0 (both (k == 0) (condition_holds set.names c) parts.0).0, is_not (has_attempt c 0) parts.1)

  -- a Resume is the master's, and comes between attempts
  pub resumed : (i : Bool) (w : Walk) (e : Entry) (es : List Entry) (v : Walk) → Within i w → is_resume e.event ≡ true → post set Handed.Nothing w e es ≡ Goes v → AtRest set plan i v
  resumed i w e es v here n q =
      between here.view.phase refl
    where
      s : Step plan set Handed.Nothing w.core w.posted e es v
      s = stepped plan set Handed.Nothing w e es v q

      p : Posted
      p = record { entry = e; handed = Handed.Nothing }

      is : (f : Event) → is_resume f ≡ true → f ≡ Event.Resume
      is Event.Resume h = refl
      is _ h = absurd (true≢false (sym h))

      permits : permitted set w.core Handed.Nothing e.kernel Event.Resume ≡ true
      permits = subst (λ f. permitted set w.core Handed.Nothing e.kernel f ≡ true) (is e.event n) (permits_in w.core p s.ok)

      zero' : e.kernel ≡ 0
      zero' = (resume_guard w.core Handed.Nothing e.kernel permits).0

      free : has_attempt w.core 0 ≡ false
      free = (resume_guard w.core Handed.Nothing e.kernel permits).1

      row : Kernel
      row = here.point.row

      none : row.attempt ≡ None
      none = go row.attempt (ap (λ o. there (elim o [ None ↦ None | Some x ↦ x.attempt ])) (sym here.point.at) ∙ free)
        where
          go : (o : Option ℕ) → there o ≡ false → o ≡ None
          go None h = refl
          go (Some id) h = absurd (true≢false h)

      between : (x : Phase) → here.view.phase ≡ x → AtRest set plan i v
      between (Free d) at =
          record {
            folds = posted_folds Handed.Nothing w e es v here.folds q;
            free = ap no_wait s.core ∙ ap (λ f. not (there (wait_after w.core.wait f))) (is e.event n);
            holds =
                ap (λ c. not (holds_nothing c 0)) s.core
                ∙ (ap holding (row_after w.core p row zero' here.point.at)
                ∙ (ap (λ f. holds_some (kernel_after f row)) (is e.event n) ∙ stands_at_end i d row (subst (λ y. Stands i y row) at here.point.stands)));
            view = next_view here.view p d;
            seen = ap (kernel_run set plan 0) s.posted ∙ seen_next w.posted p here.view d here.seen at zero' (subst (λ f. stand_in_entry set here.view (Free d) f ≡ Some (Free d)) (sym (is e.event n)) refl);
            known = d;
            phase = refl;
          }
      between (At id a) at = absurd (none≢some (sym none ∙ subst (λ y. Synced y row.attempt) at here.point.synced))
      between Lost at = absurd (subst (λ y. Synced y row.attempt) at here.point.synced)

  -- what leads to a walk whose postings the stand-in's run holds of has such postings
  before : (w v : Walk) → Begun plan w.posted v v.rest → Seen plan set v.posted → Seen plan set w.posted
  before w v b fine = seen_before plan set w.posted b.0 (subst (Seen plan set) b.1 fine)

  until_rest : (i : Bool) (w : Walk) (es : List Entry) (r : List Tree × Walk) → Within i w → until_resume set w es ≡ Goes r → Seen plan set (r.1).posted → AtRest set plan i r.1
  until_rest i w [] r here q fine = absurd (used≢goes q)
  until_rest i w (e ∷ es) r here q fine =
      let s = gone (post set Handed.Nothing w e es) (λ v. elim (is_resume e.event) [ true ↦ Goes (wait_reply set.names w.core, v) | false ↦ until_resume set v es ]) r q in
      go (is_resume e.event) refl s.0 s.1 (Kept.posted_rest set Handed.Nothing w e es s.0 s.1) s.2 (λ v within q'. until_rest i v es r within q' fine)
    where
      go : (b : Bool) → is_resume e.event ≡ b → (v : Walk) → post set Handed.Nothing w e es ≡ Goes v → v.rest ≡ es
          → elim b [ true ↦ Goes (wait_reply set.names w.core, v) | false ↦ until_resume set v es ] ≡ Goes r
          → ((v : Walk) → Within i v → until_resume set v es ≡ Goes r → AtRest set plan i r.1) → AtRest set plan i r.1
      go true b v p rest q' next = subst (λ x. AtRest set plan i x.1) (goes_is q') (resumed i w e es v here b p)
      go false b v p rest q' next =
          next v (goes_further i w e es v here b p (before v r.1 (Kept.until_good set (Begun plan v.posted) (begun_post plan set v.posted) v es r rest (begun_at plan v) q') fine)) q'

  wait_rest : (i : Bool) (d : Definitions) (wait : Wait) (w : Walk) (r : List Tree × Walk) → AtRest set plan i w → wait_for set d wait w ≡ Goes r → Seen plan set (r.1).posted → AtRest set plan i r.1
  wait_rest i d wait w r rest q fine =
      let s = gone (master_posts set (Event.Yield wait) (Handed.Lent d) w) (λ v. until_resume set v v.rest) r q in
      until_rest i s.0 (s.0).rest r (yields wait (Handed.Lent d) i w s.0 rest s.1) s.2 fine

  -- ---- calls

  submit_rest : (i : Bool) (d : Definitions) (is : List Item) (w : Walk) (r : List ℕ × Walk) → AtRest set plan i w → submit_all set d is w ≡ Goes r → AtRest set plan i r.1
  submit_rest i d [] w r rest q = subst (λ x. AtRest set plan i x.1) (goes_is q) rest
  submit_rest i d (x ∷ xs) w r rest q =
      let s = gone (master_posts set (Event.Submit (suc (length w.core.items))) (Handed.Given x (bundle set.names d (seeds_of x))) w) (λ v. going (submit_all set d xs v) numbered) r q in
      let u = gone (submit_all set d xs s.0) numbered r s.2 in
      subst (λ y. AtRest set plan i y.1) (goes_is u.2)
      (submit_rest i d xs s.0 u.0 (turned (Event.Submit (suc (length w.core.items))) (Handed.Given x (bundle set.names d (seeds_of x))) i i w s.0 rest refl s.1) u.1)
    where
      numbered : List ℕ × Walk → Course (List ℕ × Walk)
      numbered r' = Goes (suc (length w.core.items) ∷ r'.0, r'.1)

  one_rest : (v : Tree) (d : Definitions) (event : Event) (i a : Bool) (w : Walk) (x : Answered) → AtRest set plan i w → Turns event i a → replied v d (master_posts set event Handed.Nothing w) ≡ Goes x → AtRest set plan a x.walk
  one_rest v d event i a w x rest t q =
      let s = gone (master_posts set event Handed.Nothing w) (λ u. Goes (record { reply = Reply.Replied v; after = d; walk = u })) x q in
      subst (λ y. AtRest set plan a y.walk) (goes_is s.2) (turned event Handed.Nothing i a w s.0 rest t s.1)

  by_next_rest : (i : Bool) (d : Definitions) (n : Next) (w : Walk) (a : Answered) → AtRest set plan i w → by_next set d n w ≡ Goes a → Seen plan set a.walk.posted → AtRest set plan i a.walk
  by_next_rest i d (Replies reply) w a rest q fine = subst (λ y. AtRest set plan i y.walk) (goes_is q) rest
  by_next_rest i d (Awaits wait k) w a rest q fine =
      let s = gone (wait_for set d wait w) (λ r. Goes (record { reply = k r.0; after = (r.1).core.definitions; walk = r.1 })) a q in
      subst (λ y. AtRest set plan i y.walk) (goes_is s.2) (wait_rest i d wait w s.0 rest s.1 (subst (λ y. Seen plan set y.walk.posted) (sym (goes_is s.2)) fine))

  by_form_rest : (i : Bool) (d : Definitions) (f : Form) (w : Walk) (a : Answered) → AtRest set plan i w → by_form set d f w ≡ Goes a → Seen plan set a.walk.posted → AtRest set plan i a.walk
  by_form_rest i d (Answers reply after) w a rest q fine = subst (λ y. AtRest set plan i y.walk) (goes_is q) rest
  by_form_rest i d (Submits items k) w a rest q fine =
      let s = gone (submit_all set d items w) (λ r. by_next set d (k r.0) r.1) a q in
      by_next_rest i d (k (s.0).0) (s.0).1 a (submit_rest i d items w s.0 rest s.1) s.2 fine

  -- the reply to Enter and to Leave is a value
  abbrev Replied' : Answered → Type 0
  Replied' a = (v : Tree) × (a.reply ≡ Reply.Replied v)

  replied_so : (v : Tree) (d : Definitions) (o : Course Walk) (a : Answered) → replied v d o ≡ Goes a → Replied' a
  replied_so v d o a q = let s = gone o (λ w. Goes (record { reply = Reply.Replied v; after = d; walk = w })) a q in (v, sym (ap (λ x. x.reply) (goes_is s.2)))

  enter_rest : (d : Definitions) (ls : List Sym) (w : Walk) (a : Answered) → AtRest set plan false w → enter set d ls w ≡ Goes a → Seen plan set a.walk.posted → AtRest set plan (opens (Call.Enter ls) a.reply false) a.walk
  enter_rest d ls w a rest q fine = go (all_free w.core ls) q
    where
      entered : Definitions → Walk → Course Answered
      entered after v = replied (null set.names) after (master_posts set (Event.Enter ls) Handed.Nothing v)

      one : (v : Walk) (after : Definitions) → AtRest set plan false v → entered after v ≡ Goes a → AtRest set plan (opens (Call.Enter ls) a.reply false) a.walk
      one v after r e =
          let told = replied_so (null set.names) after (master_posts set (Event.Enter ls) Handed.Nothing v) a e in
          subst (λ x. AtRest set plan (opens (Call.Enter ls) x false) a.walk) (sym told.1) (one_rest (null set.names) after (Event.Enter ls) false true v a r refl e)

      go : (b : Bool) → elim b [ true ↦ entered d w | false ↦ going (wait_for set d (Wait.Locks ls) w) (λ r. entered (r.1).core.definitions r.1) ] ≡ Goes a
          → AtRest set plan (opens (Call.Enter ls) a.reply false) a.walk
      go true e = one w d rest e
      go false e =
          let s = gone (wait_for set d (Wait.Locks ls) w) (λ r. entered (r.1).core.definitions r.1) a e in
          let v : Walk = (s.0).1 in
          one v v.core.definitions
          (wait_rest false d (Wait.Locks ls) w s.0 rest s.1
          (before v a.walk (Kept.replied_good set (Begun plan v.posted) (begun_post plan set v.posted) (null set.names) v.core.definitions (Event.Enter ls) v a (begun_at plan v) s.2) fine)) s.2

  call_rest : (i : Bool) (c : Call) (d : Definitions) (w : Walk) (a : Answered) → AtRest set plan i w → T (may_call c i) → answer set c d w ≡ Goes a → Seen plan set a.walk.posted → AtRest set plan (opens c a.reply i) a.walk
  call_rest i (Call.Sends Request.Count) d w a rest may q fine = one_rest (integer (pos (count w.core))) d (Event.Ask (count w.core)) i i w a rest refl q
  call_rest i (Call.Sends (Request.Print t)) d w a rest may q fine = one_rest (null set.names) d (Event.Print t) i i w a rest refl q
  call_rest i (Call.Sends (Request.Outside e)) d w a rest may q fine = by_form_rest i d (form set w.core d e) w a rest q fine
  call_rest i (Call.Sends (Request.Access e)) d w a rest may q fine = absurd (no_entry≢goes w w.rest a q)
  call_rest i Call.Leave d w a rest may q fine =
      let told = replied_so (null set.names) d (master_posts set Event.Leave Handed.Nothing w) a q in
      subst (λ x. AtRest set plan (opens Call.Leave x i) a.walk) (sym told.1) (one_rest (null set.names) d Event.Leave i false w a rest refl q)
  call_rest false (Call.Enter ls) d w a rest may q fine = enter_rest d ls w a rest q fine
  call_rest true (Call.Enter ls) d w a rest may q fine = absurd may

  play_rest : (i now : Bool) (t : Play) (w : Walk) (r : Finish × Walk) → Orderly i now t → AtRest set plan now w → play_along set t w ≡ Goes r → Seen plan set (r.1).posted → AtRest set plan (is_some (r.0).state.open_section) r.1
  play_rest i now (Over o s) w r (ended at still) rest q fine =
      subst (λ x. AtRest set plan (is_some (x.0).state.open_section) x.1) (goes_is q) (subst (λ b. AtRest set plan b w) (sym at) rest)
  play_rest i now (Calls c s k) w r (called at may next) rest q fine =
      let one = gone (answer set c s.definitions w) (λ a. play_along set (k a.reply a.after) a.walk) r q in
      let a = one.0 in
      let seen = before a.walk r.1 (Kept.play_good set (Begun plan a.walk.posted) (begun_post plan set a.walk.posted) (k a.reply a.after) a.walk r (begun_at plan a.walk) one.2) fine in
      play_rest i (opens c a.reply now) (k a.reply a.after) a.walk r (next a.reply a.after) (call_rest now c s.definitions w a rest may one.1 seen) one.2 fine

seen_so : (set : Setup) (plan : Plan) (ps : List Posted) → KernelRun set plan 0 ps → Seen plan set ps
seen_so set plan ps h = go (kernel_run set plan 0 ps) h
  where
    go : (o : Option View) → T (there o) → (v : View) × (o ≡ Some v)
    go None h' = absurd h'
    go (Some v) h' = (v, refl)

pub calls_keep_sections : CallsKeepSections
calls_keep_sections set plan inside c d w a rest may q runs = call_rest set plan inside c d w a rest may q (seen_so set plan a.walk.posted runs)

pub cells_keep_sections : CellsKeepSections
cells_keep_sections set plan d e w r rest q runs = play_rest set plan false false (whole (in_mode set Mode.Cell 0) d e) w r (sections_in_order (in_mode set Mode.Cell 0) d e) rest q (seen_so set plan (r.1).posted runs)
