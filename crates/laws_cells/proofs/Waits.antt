-- The run of a script, as far as it comes: between cells the master is at rest outside sections, and where the journal is used up in a wait
-- kernel 0 holds what the stand-in's attempt does.
use Rattle.std.proofs.Common.{◌≡◌, refl, sym, ap, subst, ◌∙◌, ℕ, suc, Bool, true, false, T, List, [], ◌∷◌, ◌++◌, length, take, Option, Some, None, true≢false, eqb-true}
use Rattle.std.specs.Prelude.{◌&&◌, ◌==◌, not, ltb, pos}
use Rattle.expr_tree.specs.declared.sym.Sym.{Sym}
use Rattle.expr_tree.specs.Tree.{Tree, integer, depth}
use Rattle.semantics.specs.Names.{IsNames}
use Rattle.semantics.specs.Definitions.{Definitions, empty}
use Rattle.semantics.specs.Program.{Mode, Call, Request, Sends, Enter, Leave}
use Rattle.semantics.specs.Play.{Reply, Play, whole}
use Rattle.semantics.specs.Opened.{opens}
use Rattle.semantics.specs.Ends.{aborted}
use Rattle.journal.specs.Places.{is_some as there}
use Rattle.journal.specs.Closure.{bundle}
use Rattle.journal.specs.declared.loss.Loss.{Loss}
use Rattle.journal.specs.declared.event.Wait.{Wait}
use Rattle.journal.specs.declared.event.Event.{Event}
use Rattle.journal.specs.declared.event.Entry.{Entry}
use Rattle.journal.specs.declared.item.Item.{Item}
use Rattle.journal.specs.Entry.{Handed, Posted}
use Rattle.journal.specs.Core.{Setup, Core, null, count, start, step, replay, all_free, holds_nothing, no_wait, permitted, kernel_after, wait_after, wait_reply, in_mode}
use Rattle.journal.specs.Follow.{Plan, View, first_view, kernel_run, KernelRun}
use Rattle.journal.specs.Forms.{Next, Replies, Awaits, Form, Answers, Submits, form}
use Rattle.journal.specs.Run.{Walk, Course, Goes, UsedUp, Differs, going, or_differs, post, post_next, master_posts, is_event, is_resume, until_resume, wait_for, seeds_of, submit_all, Answered, replied, by_next, by_form, enter, answer, Finish, play_along, Reading, Reads, Unread, Ran, out_line, with_lines, after_cell, run_cell, run_cells, is_loss, first_losses, first_walk, run_along, is_over, closes, whole_run, used_by}
use Rattle.laws_journal.specs.Laws.{StandsIn}
use Rattle.laws_journal.specs.Masters.{AtRest}
use Rattle.laws_journal.proofs.Tables.{both, some_is, none≢some, apart, change_other}
use Rattle.laws_journal.proofs.Courses.{on_step}
use Rattle.laws_journal.proofs.Unique.{stepped, Seen, seen_before}
use Rattle.laws_journal.proofs.Seen.{watched}
use Rattle.laws_journal.proofs.Waiting.{holding}
use Rattle.laws_journal.proofs.Masters.{Turns, Within, posted_folds, turned, yields, seen_one, goes_further, resumed, next_of, cells_keep_sections}
use Rattle.laws_calls.specs.Calls.{unstopped, may_come, Fits, ended, called}
use Rattle.laws_calls.specs.Ends.{answered, may_end, EndsIn, at_end, at_call}
use Rattle.laws_calls.proofs.Passes.{calls_fit, ends_fit}
use Rattle.laws_cells.specs.Cells.{EndsOutside}
use Rattle.laws_cells.specs.Rest.{CellsKeepRest, RunsRest, WaitsAgree}
use Rattle.laws_cells.proofs.Inside.{NextWaits, awaits, FormWaits, submits, form-waits}
use Rattle.laws_cells.proofs.Cells.{Every, Answers', answers_so, cell_end, cells_end_outside}

module _ (set : Setup) (plan : Plan) where
  -- that the stand-in's run holds of what was posted
  abbrev Told : Walk → Type 0
  Told w = Seen plan set w.posted

  -- what holds as far as it does
  abbrev Rests : Bool → Walk → Type 0
  Rests i w = Told w → AtRest set plan i w

  abbrev Waiting : Walk → Type 0
  Waiting w = Told w → Within set plan false w

  -- a point in a wait, if it is one
  record Stood (w : Walk) : Type 0 where
    folds : replay set w.posted ≡ Some w.core
    stands : (v : View) → kernel_run set plan 0 w.posted ≡ Some v → there w.core.wait ≡ true → StandsIn v.phase (not (holds_nothing w.core 0))

  not_waiting : (w : Walk) → no_wait w.core ≡ true → there w.core.wait ≡ true → ⊥
  not_waiting w free waits = true≢false (sym free ∙ ap not waits)

  stood_at_rest : {i : Bool} {w : Walk} → AtRest set plan i w → Stood w
  stood_at_rest {w = w} r = record { folds = r.folds; stands = λ v seen waits. absurd (not_waiting w r.free waits) }

  stood_within : {w : Walk} → Within set plan false w → Stood w
  stood_within {w} here =
      record {
        folds = here.folds;
        stands = λ v seen waits. subst (λ x. StandsIn x.phase (not (holds_nothing w.core 0))) (some_is (sym here.seen ∙ seen))
            (subst (λ o. StandsIn here.view.phase (holding o)) (sym here.point.at) here.point.stands);
      }

  -- ---- courses

  abbrev Fares : {A : Type 0} → (A → Type 0) → Course A → Type 0
  Fares P (Goes a) = P a
  Fares P (UsedUp w) = Told w → Stood w
  Fares P Differs = Unit {0}

  fares_on : {A B : Type 0} (P : A → Type 0) (Q : B → Type 0) (o : Course A) (k : A → Course B) → Fares P o → ((a : A) → P a → Fares Q (k a)) → Fares Q (going o k)
  fares_on P Q (Goes a) k one next = next a one
  fares_on P Q (UsedUp w) k one next = one
  fares_on P Q Differs k one next = tt

  -- ---- entries

  told_before : (h : Handed) (w : Walk) (e : Entry) (es : List Entry) (v : Walk) → post set h w e es ≡ Goes v → Told v → Told w
  told_before h w e es v q told =
      seen_before plan set w.posted (record { entry = e; handed = h } ∷ []) (subst (Seen plan set) (stepped plan set h w e es v q).posted told)

  post_fares : (P : Walk → Type 0) (h : Handed) (w : Walk) (e : Entry) (es : List Entry) → ((v : Walk) → post set h w e es ≡ Goes v → P v) → Fares P (post set h w e es)
  post_fares P h w e es next = go (step set w.core p) next
    where
      p : Posted
      p = record { entry = e; handed = h }

      after : Core → Walk
      after c = record { core = c; posted = w.posted ++ p ∷ []; rest = es }

      go : (o : Option Core) → ((v : Walk) → on_step o after ≡ Goes v → P v) → Fares P (on_step o after)
      go None next' = tt
      go (Some c) next' = next' (after c) refl

  next_fares : (P : Walk → Type 0) (event : Event) (h : Handed) (w : Walk) (es : List Entry) → (Told w → Stood w) → ((v : Walk) → post_next set event h w es ≡ Goes v → P v) → Fares P (post_next set event h w es)
  next_fares P event h w [] stood next = stood
  next_fares P event h w (e ∷ es) stood next = go ((e.kernel == 0) && is_event event e.event) next
    where
      go : (b : Bool) → ((v : Walk) → or_differs b (post set h w e es) ≡ Goes v → P v) → Fares P (or_differs b (post set h w e es))
      go true next' = post_fares P h w e es next'
      go false next' = tt

  master_fares : (P : Walk → Type 0) (event : Event) (h : Handed) {i : Bool} (w : Walk) → Rests i w → ((v : Walk) → master_posts set event h w ≡ Goes v → P v) → Fares P (master_posts set event h w)
  master_fares P event h w rest next = next_fares P event h w w.rest (λ told. stood_at_rest (rest told)) next

  master_told : (event : Event) (h : Handed) (w v : Walk) → master_posts set event h w ≡ Goes v → Told v → Told w
  master_told event h w v q = let n = next_of set plan event h w v w.rest q in told_before h w n.entry n.rest v n.goes

  turned_rests : (event : Event) (h : Handed) (i a : Bool) (w v : Walk) → Rests i w → Turns set plan event i a → master_posts set event h w ≡ Goes v → Rests a v
  turned_rests event h i a w v rest t q told = turned set plan event h i a w v (rest (master_told event h w v q told)) t q

  -- ---- waits

  abbrev AtResume : Entry → Walk → Type 0
  AtResume e v = (is_resume e.event ≡ true → Rests false v) × (is_resume e.event ≡ false → Waiting v)

  abbrev Second : {A : Type 0} → Bool → A × Walk → Type 0
  Second i r = Rests i r.1

  until_fares : (w : Walk) (es : List Entry) → Waiting w → Fares (Second {A = List Tree} false) (until_resume set w es)
  until_fares w [] here = λ told. stood_within (here told)
  until_fares w (e ∷ es) here =
      fares_on (AtResume e) (Second false) (post set Handed.Nothing w e es) _
      (post_fares (AtResume e) Handed.Nothing w e es
      (λ v q. (
        λ is told. resumed set plan false w e es v (here (told_before Handed.Nothing w e es v q told)) is q,
        λ is told. goes_further set plan false w e es v (here (told_before Handed.Nothing w e es v q told)) is q told,
      )))
      (λ v at. go (is_resume e.event) v at.0 at.1 (λ waits. until_fares v es waits))
    where
      go : (b : Bool) (v : Walk) → (b ≡ true → Rests false v) → (b ≡ false → Waiting v) → (Waiting v → Fares (Second {A = List Tree} false) (until_resume set v es))
          → Fares (Second {A = List Tree} false) (elim b [ true ↦ Goes (wait_reply set.names w.core, v) | false ↦ until_resume set v es ])
      go true v rest waits next = rest refl
      go false v rest waits next = next (waits refl)

  wait_fares : (d : Definitions) (wait : Wait) (w : Walk) → Rests false w → Fares (Second {A = List Tree} false) (wait_for set d wait w)
  wait_fares d wait w rest =
      fares_on Waiting (Second false) (master_posts set (Event.Yield wait) (Handed.Lent d) w) (λ v. until_resume set v v.rest)
      (master_fares Waiting (Event.Yield wait) (Handed.Lent d) w rest
      (λ v q told. yields set plan wait (Handed.Lent d) false w v (rest (master_told (Event.Yield wait) (Handed.Lent d) w v q told)) q))
      (λ v here. until_fares v v.rest here)

  submit_fares : (i : Bool) (d : Definitions) (is : List Item) (w : Walk) → Rests i w → Fares (Second {A = List ℕ} i) (submit_all set d is w)
  submit_fares i d [] w rest = rest
  submit_fares i d (x ∷ xs) w rest =
      fares_on (Rests i) (Second i) (master_posts set event handed w) (λ v. going (submit_all set d xs v) numbered)
      (master_fares (Rests i) event handed w rest (λ v q. turned_rests event handed i i w v rest refl q))
      (λ v here. fares_on (Second {A = List ℕ} i) (Second i) (submit_all set d xs v) numbered (submit_fares i d xs v here) (λ r after. after))
    where
      event : Event
      event = Event.Submit (suc (length w.core.items))

      handed : Handed
      handed = Handed.Given x (bundle set.names d (seeds_of x))

      numbered : List ℕ × Walk → Course (List ℕ × Walk)
      numbered r = Goes (suc (length w.core.items) ∷ r.0, r.1)

  -- ---- calls

  abbrev After : Call → Bool → Answered → Type 0
  After c i a = Rests (opens c a.reply i) a.walk

  one_fares : (c : Call) (i : Bool) (v : Tree) (d : Definitions) (event : Event) (w : Walk) → Rests i w → Turns set plan event i (opens c (Reply.Replied v) i)
      → Fares (After c i) (replied v d (master_posts set event Handed.Nothing w))
  one_fares c i v d event w rest t =
      fares_on (Rests (opens c (Reply.Replied v) i)) (After c i) (master_posts set event Handed.Nothing w) _
      (master_fares (Rests (opens c (Reply.Replied v) i)) event Handed.Nothing w rest (λ u q. turned_rests event Handed.Nothing i (opens c (Reply.Replied v) i) w u rest t q))
      (λ u here. here)

  next_rests : (q : Request) (i : Bool) (d : Definitions) (n : Next) (w : Walk) → NextWaits i n → Rests i w → Fares (After (Sends q) i) (by_next set d n w)
  next_rests q i d (Replies r) w waits rest = rest
  next_rests q false d (Awaits wait k) w waits rest = fares_on (Second {A = List Tree} false) (After (Sends q) false) (wait_for set d wait w) _ (wait_fares d wait w rest) (λ r here. here)
  next_rests q true d (Awaits wait k) w (awaits outside) rest = absurd (true≢false outside)

  form_rests : (q : Request) (i : Bool) (d : Definitions) (f : Form) (w : Walk) → FormWaits i f → Rests i w → Fares (After (Sends q) i) (by_form set d f w)
  form_rests q i d (Answers r after) w waits rest = rest
  form_rests q i d (Submits items k) w (submits waits) rest =
      fares_on (Second {A = List ℕ} i) (After (Sends q) i) (submit_all set d items w) _ (submit_fares i d items w rest) (λ r here. next_rests q i d (k r.0) r.1 (waits r.0) here)

  enter_fares : (d : Definitions) (ls : List Sym) (w : Walk) → Rests false w → Fares (After (Enter ls) false) (enter set d ls w)
  enter_fares d ls w rest = go (all_free w.core ls)
    where
      go : (b : Bool) → Fares (After (Enter ls) false) (elim b [
        | true ↦ replied (null set.names) d (master_posts set (Event.Enter ls) Handed.Nothing w)
        | false ↦ going (wait_for set d (Wait.Locks ls) w) (λ r. replied (null set.names) (r.1).core.definitions (master_posts set (Event.Enter ls) Handed.Nothing r.1))
      ])
      go true = one_fares (Enter ls) false (null set.names) d (Event.Enter ls) w rest refl
      go false =
          fares_on (Second {A = List Tree} false) (After (Enter ls) false) (wait_for set d (Wait.Locks ls) w) _ (wait_fares d (Wait.Locks ls) w rest)
          (λ r here. one_fares (Enter ls) false (null set.names) (r.1).core.definitions (Event.Enter ls) r.1 here refl)

  -- ---- cells

  on_answer : {B : Type 0} (c : Call) (i : Bool) (Q : B → Type 0) (o : Course Answered) (k : Answered → Course B) → Fares (After c i) o → Every (Answers' c) o
      → ((a : Answered) → After c i a → Answers' c a → Fares Q (k a)) → Fares Q (going o k)
  on_answer c i Q (Goes a) k one so next = next a one so
  on_answer c i Q (UsedUp w) k one so next = one
  on_answer c i Q Differs k one so next = tt

  abbrev Between : Ran → Type 0
  Between ran = Rests false ran.walk

  module _ (good : IsNames set.names) where
    answer_fares : (i : Bool) (c : Call) (d : Definitions) (w : Walk) → T (may_come set.names Mode.Cell i c) → Rests i w → Fares (After c i) (answer set c d w)
    answer_fares i (Sends Request.Count) d w may rest = one_fares (Sends Request.Count) i (integer (pos (count w.core))) d (Event.Ask (count w.core)) w rest refl
    answer_fares i (Sends (Request.Print t)) d w may rest = one_fares (Sends (Request.Print t)) i (null set.names) d (Event.Print t) w rest refl
    answer_fares i (Sends (Request.Outside e)) d w may rest = form_rests (Request.Outside e) i d (form set w.core d e) w (form-waits set w.core d good i e may) rest
    answer_fares i (Sends (Request.Access e)) d w may rest = absurd may
    answer_fares i Leave d w may rest = one_fares Leave i (null set.names) d Event.Leave w rest refl
    answer_fares i (Enter []) d w may rest = absurd may
    answer_fares false (Enter (l ∷ ls)) d w may rest = enter_fares d (l ∷ ls) w rest
    answer_fares true (Enter (l ∷ ls)) d w may rest = absurd may

    play_fares : {so_far told now : Bool} {t : Play} → so_far ≡ true → told ≡ true → Fits set.names Mode.Cell so_far now t → EndsIn Mode.Cell told t → (w : Walk) → Rests now w
        → Fares (Second {A = Finish} false) (play_along set t w)
    play_fares sure all (ended {o = o} is none) (at_end may) w rest = subst (λ b. Rests b w) (cell_end set o (subst (λ b. T (may_end Mode.Cell b o)) all may) (none sure)).1 rest
    play_fares {now = now} sure all (called {c = c} {s = s} {k = k} is may next) (at_call then') w rest =
        on_answer c now (Second false) (answer set c s.definitions w) (λ a. play_along set (k a.reply a.after) a.walk)
        (answer_fares now c s.definitions w may rest) (answers_so set c s.definitions w)
        (λ a here so. play_fares (subst (λ b. unstopped c a.reply b ≡ true) (sym sure) so.unstopped) (subst (λ b. answered a.reply b ≡ true) (sym all) so.answered)
        (next a.reply a.after) (then' a.reply a.after) a.walk here)

    cell_fares : (n : ℕ) (c : Reading) (ran : Ran) → Between ran → Fares Between (run_cell set n c ran)
    cell_fares n (Unread at) ran rest = rest
    cell_fares n (Reads e) ran rest = go (ltb set.limits.depth (depth e))
      where
        go : (b : Bool) → Fares Between (elim b [
          | true ↦ Goes (with_lines (out_line set.names n (aborted set.names)) ran)
          | false ↦ going (play_along set (whole (in_mode set Mode.Cell 0) ran.definitions e) ran.walk) (λ r. Goes (after_cell set n ran r))
        ])
        go true = rest
        go false =
            fares_on (Second {A = Finish} false) Between (play_along set (whole (in_mode set Mode.Cell 0) ran.definitions e) ran.walk) _
            (play_fares refl refl (calls_fit (in_mode set Mode.Cell 0) ran.definitions e) (ends_fit (in_mode set Mode.Cell 0) ran.definitions e) ran.walk rest) (λ r here. here)

    cells_fare : (n : ℕ) (cs : List Reading) (ran : Ran) → Between ran → Fares Between (run_cells set n cs ran)
    cells_fare n [] ran rest = rest
    cells_fare n (c ∷ cs) ran rest = fares_on Between Between (run_cell set n c ran) _ (cell_fares n c ran rest) (λ r here. cells_fare (suc n) cs r here)

  -- ---- from the start to Close

  begins_at_rest : (journal : List Entry) → AtRest set plan false (first_walk set journal)
  begins_at_rest journal = record { folds = refl; free = refl; holds = refl; view = first_view; seen = refl; known = empty; phase = refl }

  loss_in : (e : Event) → is_loss e ≡ true → (cause : Loss) × (e ≡ Event.Lose cause)
  loss_in (Event.Lose cause) h = (cause, refl)
  loss_in _ h = absurd (true≢false (sym h))

  -- kernel 0 is never lost
  of_a_kernel : (c : Core) (k : ℕ) (cause : Loss) → permitted set c Handed.Nothing k (Event.Lose cause) ≡ true → (k == 0) ≡ false
  of_a_kernel c k cause ok = go (k == 0) refl
    where
      go : (b : Bool) → (k == 0) ≡ b → (k == 0) ≡ false
      go true e = absurd (true≢false (sym (subst (λ j. permitted set c Handed.Nothing j (Event.Lose cause) ≡ true) (eqb-true k 0 e) ok)))
      go false e = e

  loss_rests : (w : Walk) (e : Entry) (es : List Entry) (v : Walk) → is_loss e.event ≡ true → Rests false w → post set Handed.Nothing w e es ≡ Goes v → Rests false v
  loss_rests w e es v is rest q told =
      let p : Posted = record { entry = e; handed = Handed.Nothing } in
      let s = stepped plan set Handed.Nothing w e es v q in
      let r = rest (told_before Handed.Nothing w e es v q told) in
      let l = loss_in e.event is in
      let other = of_a_kernel w.core e.kernel l.0 (subst (λ f. permitted set w.core Handed.Nothing e.kernel f ≡ true) l.1 (both _ _ s.ok).1) in
      let one = seen_one set plan Handed.Nothing w e es v r.view r.seen q told in
      record {
        folds = posted_folds set plan Handed.Nothing w e es v r.folds q;
        free = ap no_wait s.core ∙ (ap (λ f. not (there (wait_after w.core.wait f))) l.1 ∙ r.free);
        holds = ap (λ c. not (holds_nothing c 0)) s.core ∙ (ap holding (change_other e.kernel 0 (kernel_after e.event) w.core.kernels (apart e.kernel 0 other)) ∙ r.holds);
        view = one.0;
        seen = one.1;
        known = r.known;
        phase = ap (λ x. x.phase) ((watched set plan 0 r.view p one.0 one.2).other other) ∙ r.phase;
      }

  losses_fare : (w : Walk) (es : List Entry) → Rests false w → Fares (Rests false) (first_losses set w es)
  losses_fare w [] rest = rest
  losses_fare w (e ∷ es) rest = go (is_loss e.event) refl (λ v here. losses_fare v es here)
    where
      go : (b : Bool) → is_loss e.event ≡ b → ((v : Walk) → Rests false v → Fares (Rests false) (first_losses set v es))
          → Fares (Rests false) (elim b [ true ↦ going (post set Handed.Nothing w e es) (λ v. first_losses set v es) | false ↦ Goes w ])
      go true is next =
          fares_on (Rests false) (Rests false) (post set Handed.Nothing w e es) _
          (post_fares (Rests false) Handed.Nothing w e es (λ v q. loss_rests w e es v is rest q)) next
      go false is next = rest

  abbrev Ending : Walk → Type 0
  Ending w = Told w → Stood w

  closed_so : (w v : Walk) → Rests false w → master_posts set Event.Close Handed.Nothing w ≡ Goes v → Ending v
  closed_so w v rest q told =
      let n = next_of set plan Event.Close Handed.Nothing w v w.rest q in
      let s = stepped plan set Handed.Nothing w n.entry n.rest v n.goes in
      let r = rest (master_told Event.Close Handed.Nothing w v q told) in
      let free : no_wait v.core ≡ true = ap no_wait s.core ∙ (ap (λ e. not (there (wait_after w.core.wait e.event))) n.is ∙ r.free) in
      record {
        folds = posted_folds set plan Handed.Nothing w n.entry n.rest v r.folds n.goes;
        stands = λ x seen waits. absurd (not_waiting v free waits);
      }

  closes_fare : (w : Walk) → Rests false w → Fares Ending (closes set w)
  closes_fare w rest =
      fares_on Ending Ending (master_posts set Event.Close Handed.Nothing w) _
      (master_fares Ending Event.Close Handed.Nothing w rest (λ v q. closed_so w v rest q)) (λ v here. go (is_over v.rest) v here)
    where
      go : (b : Bool) (v : Walk) → Ending v → Fares Ending (or_differs b (Goes v))
      go true v here = here
      go false v here = tt

  module _ (good : IsNames set.names) where
    along_fares : (cells : List Reading) (journal : List Entry) (m : ℕ) → Fares Between (run_along set cells journal m)
    along_fares cells journal m =
        fares_on (Rests false) Between (first_losses set (first_walk set journal) journal) _ (losses_fare (first_walk set journal) journal (λ told. begins_at_rest journal))
        (λ w here. cells_fare good 1 (take m cells) _ here)

    whole_fares : (cells : List Reading) (journal : List Entry) → Fares Ending (whole_run set cells journal)
    whole_fares cells journal =
        fares_on Between Ending (run_along set cells journal (length cells)) _ (along_fares cells journal (length cells)) (λ ran here. closes_fare ran.walk here)

  told_so : (ps : List Posted) → KernelRun set plan 0 ps → Seen plan set ps
  told_so ps h = go (kernel_run set plan 0 ps) h
    where
      go : (o : Option View) → T (there o) → (v : View) × (o ≡ Some v)
      go None h' = absurd h'
      go (Some v) h' = (v, refl)

  at_this : (w : Walk) (ps : List Posted) (c : Core) (v : View) → Ending w → w.posted ≡ ps → replay set ps ≡ Some c → kernel_run set plan 0 ps ≡ Some v → there c.wait ≡ true
      → StandsIn v.phase (not (holds_nothing c 0))
  at_this w ps c v ending same folds seen waits =
      let seen' : kernel_run set plan 0 w.posted ≡ Some v = ap (kernel_run set plan 0) same ∙ seen in
      let stood = ending (v, seen') in
      let core : w.core ≡ c = some_is (sym stood.folds ∙ (ap (replay set) same ∙ folds)) in
      subst (λ x. StandsIn v.phase (not (holds_nothing x 0))) core (stood.stands v seen' (ap (λ x. there x.wait) core ∙ waits))

  agree_so : (o : Course Walk) (ps : List Posted) (c : Core) (v : View) → Fares Ending o → used_by o ≡ Some ps → replay set ps ≡ Some c → kernel_run set plan 0 ps ≡ Some v → there c.wait ≡ true
      → StandsIn v.phase (not (holds_nothing c 0))
  agree_so (Goes w) ps c v fares q folds seen waits = at_this w ps c v fares (some_is q) folds seen waits
  agree_so (UsedUp w) ps c v fares q folds seen waits = at_this w ps c v fares (some_is q) folds seen waits
  agree_so Differs ps c v fares q folds seen waits = absurd (none≢some q)

pub cells_keep_rest : CellsKeepRest
cells_keep_rest set plan d e w r rest q runs =
    subst (λ b. AtRest set plan b r.1) (subst EndsOutside q (cells_end_outside set d e w)).1 (cells_keep_sections set plan d e w r rest q runs)

pub runs_rest : RunsRest
runs_rest set plan cells journal m ran good q runs = subst (Fares set plan (Between set plan)) q (along_fares set plan good cells journal m) (told_so set plan ran.walk.posted runs)

pub waits_agree : WaitsAgree
waits_agree set plan cells journal ps c v good begun folds seen waits = agree_so set plan (whole_run set cells journal) ps c v (whole_fares set plan good cells journal) begun folds seen waits
