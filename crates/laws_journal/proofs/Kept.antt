-- What one post keeps, the whole run keeps, as far as it comes: one lemma for each function of the run, for any property of walks.
use Rattle.std.proofs.Common.{◌≡◌, refl, sym, ap, subst, ℕ, suc, Bool, true, false, List, [], ◌∷◌, ◌++◌, length, take, Option, Some, None}
use Rattle.std.specs.Prelude.{◌&&◌, ◌==◌, ltb}
use Rattle.expr_tree.specs.declared.sym.Sym.{Sym}
use Rattle.expr_tree.specs.Tree.{Tree, depth}
use Rattle.semantics.specs.Definitions.{Definitions, empty}
use Rattle.semantics.specs.Program.{Request, Call, Mode}
use Rattle.semantics.specs.Play.{Reply, Play, Over, Calls, whole}
use Rattle.journal.specs.Closure.{bundle}
use Rattle.journal.specs.declared.event.Wait.{Wait}
use Rattle.journal.specs.declared.event.Event.{Event}
use Rattle.journal.specs.declared.event.Entry.{Entry}
use Rattle.journal.specs.declared.item.Item.{Item}
use Rattle.journal.specs.Entry.{Posted, Handed}
use Rattle.semantics.specs.Ends.{aborted}
use Rattle.journal.specs.Core.{null, Setup, Core, step, all_free, wait_reply, count, in_mode}
use Rattle.journal.specs.Forms.{Next, Replies, Awaits, Form, Answers, Submits, form}
use Rattle.journal.specs.Run.{Walk, Course, Goes, UsedUp, Differs, going, or_differs, no_entry, post, post_next, master_posts, is_event, is_resume, until_resume, wait_for, seeds_of, submit_all, Answered, replied, by_next, by_form, enter, answer, Finish, play_along, Reading, Reads, Unread, Ran, run_cell, run_cells, first_losses, first_walk, is_loss, run_along, closes, is_over, whole_run, after_cell, with_lines, out_line}
use Rattle.laws_journal.proofs.Courses.{used≢goes, differs≢goes, goes_is, on_step, one_step}

-- what is posted leaves the rest
pub posted_rest : (set : Setup) (h : Handed) (w : Walk) (e : Entry) (es : List Entry) (v : Walk) → post set h w e es ≡ Goes v → v.rest ≡ es
posted_rest set h w e es v s = sym (ap (λ x. x.rest) (one_step (step set w.core p) after v s).2)
  where
    p : Posted
    p = record { entry = e; handed = h }

    after : Core → Walk
    after c = record { core = c; posted = w.posted ++ p ∷ []; rest = es }

module _ (set : Setup) (P : Walk → List Entry → Type 0) (posts : (h : Handed) (w : Walk) (e : Entry) (es : List Entry) (v : Walk) → P w (e ∷ es) → post set h w e es ≡ Goes v → P v v.rest) where
  abbrev pub Good : Walk → Type 0
  Good w = P w w.rest

  -- where a run comes to, or where the journal is used up
  abbrev pub Keeps : {A : Type 0} → (A → Walk) → Course A → Type 0
  Keeps at (Goes a) = Good (at a)
  Keeps at (UsedUp w) = Good w × (w.rest ≡ [])
  Keeps at Differs = Unit {0}

  pub comes_to : {A : Type 0} (at : A → Walk) (o : Course A) (a : A) → Keeps at o → o ≡ Goes a → Good (at a)
  comes_to at (Goes b) a kept e = subst (λ x. Good (at x)) (goes_is e) kept
  comes_to at (UsedUp w) a kept e = absurd (used≢goes e)
  comes_to at Differs a kept e = absurd (differs≢goes e)

  goes_on : {A B : Type 0} (at : A → Walk) (to : B → Walk) (o : Course A) (k : A → Course B) → Keeps at o → ((a : A) → Good (at a) → Keeps to (k a)) → Keeps to (going o k)
  goes_on at to (Goes a) k kept next = next a kept
  goes_on at to (UsedUp w) k kept next = kept
  goes_on at to Differs k kept next = tt

  either_way : {A : Type 0} (at : A → Walk) (b : Bool) (x y : Course A) → Keeps at x → Keeps at y → Keeps at (elim b [ true ↦ x | false ↦ y ])
  either_way at true x y kept other = kept
  either_way at false x y kept other = other

  abbrev itself : Walk → Walk
  itself w = w

  -- ---- entries

  post_keeps : (h : Handed) (w : Walk) (e : Entry) (es : List Entry) → P w (e ∷ es) → Keeps itself (post set h w e es)
  post_keeps h w e es good = go (step set w.core p) (λ v. posts h w e es v good)
    where
      p : Posted
      p = record { entry = e; handed = h }

      after : Core → Walk
      after c = record { core = c; posted = w.posted ++ p ∷ []; rest = es }

      go : (o : Option Core) → ((v : Walk) → on_step o after ≡ Goes v → Good v) → Keeps itself (on_step o after)
      go None next = tt
      go (Some c) next = next (after c) refl

  next_keeps : (event : Event) (h : Handed) (w : Walk) (es : List Entry) → w.rest ≡ es → P w es → Keeps itself (post_next set event h w es)
  next_keeps event h w [] at good = (subst (P w) (sym at) good, at)
  next_keeps event h w (e ∷ es) at good = go ((e.kernel == 0) && is_event event e.event)
    where
      go : (b : Bool) → Keeps itself (or_differs b (post set h w e es))
      go true = post_keeps h w e es good
      go false = tt

  master_keeps : (event : Event) (h : Handed) (w : Walk) → Good w → Keeps itself (master_posts set event h w)
  master_keeps event h w good = next_keeps event h w w.rest refl good

  pub master_good : (event : Event) (h : Handed) (w v : Walk) → Good w → master_posts set event h w ≡ Goes v → Good v
  master_good event h w v good r = comes_to itself (master_posts set event h w) v (master_keeps event h w good) r

  abbrev second : {A : Type 0} → A × Walk → Walk
  second r = r.1

  until_keeps : (w : Walk) (es : List Entry) → w.rest ≡ es → P w es → Keeps second (until_resume set w es)
  until_keeps w [] at good = (subst (P w) (sym at) good, at)
  until_keeps w (e ∷ es) at good =
      onward (post set Handed.Nothing w e es) (post_keeps Handed.Nothing w e es good) (λ v s. posted_rest set Handed.Nothing w e es v s) (λ v rest here. until_keeps v es rest here)
    where
      onward : (o : Course Walk) → Keeps itself o → ((v : Walk) → o ≡ Goes v → v.rest ≡ es) → ((v : Walk) → v.rest ≡ es → P v es → Keeps second (until_resume set v es))
          → Keeps second (going o (λ v. elim (is_resume e.event) [ true ↦ Goes (wait_reply set.names w.core, v) | false ↦ until_resume set v es ]))
      onward (Goes v) kept rest next = either_way second (is_resume e.event) (Goes (wait_reply set.names w.core, v)) (until_resume set v es) kept (next v (rest v refl) (subst (P v) (rest v refl) kept))
      onward (UsedUp v) kept rest next = kept
      onward Differs kept rest next = tt

  pub until_good : (w : Walk) (es : List Entry) (r : List Tree × Walk) → w.rest ≡ es → P w es → until_resume set w es ≡ Goes r → Good r.1
  until_good w es r at good q = comes_to second (until_resume set w es) r (until_keeps w es at good) q

  wait_keeps : (d : Definitions) (wait : Wait) (w : Walk) → Good w → Keeps second (wait_for set d wait w)
  wait_keeps d wait w good =
      goes_on itself second (master_posts set (Event.Yield wait) (Handed.Lent d) w) (λ v. until_resume set v v.rest) (master_keeps (Event.Yield wait) (Handed.Lent d) w good) (λ v here. until_keeps v v.rest refl here)

  submit_keeps : (d : Definitions) (is : List Item) (w : Walk) → Good w → Keeps second (submit_all set d is w)
  submit_keeps d [] w good = good
  submit_keeps d (i ∷ is) w good =
      goes_on itself second (master_posts set event handed w) (λ v. going (submit_all set d is v) numbered) (master_keeps event handed w good)
      (λ v here. goes_on second second (submit_all set d is v) numbered (submit_keeps d is v here) (λ r there. there))
    where
      event : Event
      event = Event.Submit (suc (length w.core.items))

      handed : Handed
      handed = Handed.Given i (bundle set.names d (seeds_of i))

      numbered : List ℕ × Walk → Course (List ℕ × Walk)
      numbered r = Goes (suc (length w.core.items) ∷ r.0, r.1)

  pub submit_good : (d : Definitions) (is : List Item) (w : Walk) (r : List ℕ × Walk) → Good w → submit_all set d is w ≡ Goes r → Good r.1
  submit_good d is w r good q = comes_to second (submit_all set d is w) r (submit_keeps d is w good) q

  -- ---- calls

  abbrev answered : Answered → Walk
  answered a = a.walk

  replied_keeps : (v : Tree) (d : Definitions) (o : Course Walk) → Keeps itself o → Keeps answered (replied v d o)
  replied_keeps v d o kept = goes_on itself answered o (λ w. Goes (record { reply = Reply.Replied v; after = d; walk = w })) kept (λ w here. here)

  pub replied_good : (v : Tree) (d : Definitions) (event : Event) (w : Walk) (a : Answered) → Good w → replied v d (master_posts set event Handed.Nothing w) ≡ Goes a → Good a.walk
  replied_good v d event w a good q = comes_to answered (replied v d (master_posts set event Handed.Nothing w)) a (replied_keeps v d _ (master_keeps event Handed.Nothing w good)) q

  by_next_keeps : (d : Definitions) (n : Next) (w : Walk) → Good w → Keeps answered (by_next set d n w)
  by_next_keeps d (Replies reply) w good = good
  by_next_keeps d (Awaits wait k) w good =
      goes_on second answered (wait_for set d wait w) (λ r. Goes (record { reply = k r.0; after = (r.1).core.definitions; walk = r.1 })) (wait_keeps d wait w good) (λ r here. here)

  by_form_keeps : (d : Definitions) (f : Form) (w : Walk) → Good w → Keeps answered (by_form set d f w)
  by_form_keeps d (Answers reply after) w good = good
  by_form_keeps d (Submits items k) w good =
      goes_on second answered (submit_all set d items w) (λ r. by_next set d (k r.0) r.1) (submit_keeps d items w good) (λ r here. by_next_keeps d (k r.0) r.1 here)

  one_keeps : (v : Tree) (d : Definitions) (event : Event) (w : Walk) → Good w → Keeps answered (replied v d (master_posts set event Handed.Nothing w))
  one_keeps v d event w good = replied_keeps v d (master_posts set event Handed.Nothing w) (master_keeps event Handed.Nothing w good)

  enter_keeps : (d : Definitions) (ls : List Sym) (w : Walk) → Good w → Keeps answered (enter set d ls w)
  enter_keeps d ls w good =
      either_way answered (all_free w.core ls) (entered d w) (going (wait_for set d (Wait.Locks ls) w) (λ r. entered (r.1).core.definitions r.1)) (one_keeps (null set.names) d (Event.Enter ls) w good)
      (goes_on second answered (wait_for set d (Wait.Locks ls) w) (λ r. entered (r.1).core.definitions r.1) (wait_keeps d (Wait.Locks ls) w good)
      (λ r here. one_keeps (null set.names) (r.1).core.definitions (Event.Enter ls) r.1 here))
    where
      entered : Definitions → Walk → Course Answered
      entered after v = replied (null set.names) after (master_posts set (Event.Enter ls) Handed.Nothing v)

  unanswered : (w : Walk) (es : List Entry) → w.rest ≡ es → Good w → Keeps answered (no_entry w es)
  unanswered w [] at good = (good, at)
  unanswered w (e ∷ es) at good = tt

  pub answer_keeps : (c : Call) (d : Definitions) (w : Walk) → Good w → Keeps answered (answer set c d w)
  answer_keeps (Call.Sends Request.Count) d w good = one_keeps _ d (Event.Ask (count w.core)) w good
  answer_keeps (Call.Sends (Request.Print t)) d w good = one_keeps (null set.names) d (Event.Print t) w good
  answer_keeps Call.Leave d w good = one_keeps (null set.names) d Event.Leave w good
  answer_keeps (Call.Enter ls) d w good = enter_keeps d ls w good
  answer_keeps (Call.Sends (Request.Outside e)) d w good = by_form_keeps d (form set w.core d e) w good
  answer_keeps (Call.Sends (Request.Access e)) d w good = unanswered w w.rest refl good

  pub answer_good : (c : Call) (d : Definitions) (w : Walk) (a : Answered) → Good w → answer set c d w ≡ Goes a → Good a.walk
  answer_good c d w a good q = comes_to answered (answer set c d w) a (answer_keeps c d w good) q

  pub play_keeps : (t : Play) (w : Walk) → Good w → Keeps second (play_along set t w)
  play_keeps (Over end here) w good = good
  play_keeps (Calls c here k) w good =
      goes_on answered second (answer set c here.definitions w) (λ a. play_along set (k a.reply a.after) a.walk) (answer_keeps c here.definitions w good) (λ a there. play_keeps (k a.reply a.after) a.walk there)

  pub play_good : (t : Play) (w : Walk) (r : Finish × Walk) → Good w → play_along set t w ≡ Goes r → Good r.1
  play_good t w r good q = comes_to second (play_along set t w) r (play_keeps t w good) q

  -- ---- cells

  abbrev walked : Ran → Walk
  walked ran = ran.walk

  cell_keeps : (n : ℕ) (c : Reading) (ran : Ran) → Good ran.walk → Keeps walked (run_cell set n c ran)
  cell_keeps n (Unread at) ran good = good
  cell_keeps n (Reads e) ran good =
      either_way walked (ltb set.limits.depth (depth e)) (Goes (with_lines (out_line set.names n (aborted set.names)) ran)) (going (play_along set t ran.walk) (λ r. Goes (after_cell set n ran r))) good
      (goes_on second walked (play_along set t ran.walk) (λ r. Goes (after_cell set n ran r)) (play_keeps t ran.walk good) (λ r here. here))
    where
      t : Play
      t = whole (in_mode set Mode.Cell 0) ran.definitions e

  pub cell_good : (n : ℕ) (c : Reading) (ran r : Ran) → Good ran.walk → run_cell set n c ran ≡ Goes r → Good r.walk
  cell_good n c ran r good q = comes_to walked (run_cell set n c ran) r (cell_keeps n c ran good) q

  pub cells_keep : (n : ℕ) (cs : List Reading) (ran : Ran) → Good ran.walk → Keeps walked (run_cells set n cs ran)
  cells_keep n [] ran good = good
  cells_keep n (c ∷ cs) ran good = goes_on walked walked (run_cell set n c ran) (λ r. run_cells set (suc n) cs r) (cell_keeps n c ran good) (λ r here. cells_keep (suc n) cs r here)

  pub cells_good : (n : ℕ) (cs : List Reading) (ran r : Ran) → Good ran.walk → run_cells set n cs ran ≡ Goes r → Good r.walk
  cells_good n cs ran r good q = comes_to walked (run_cells set n cs ran) r (cells_keep n cs ran good) q

  losses_keep : (w : Walk) (es : List Entry) → w.rest ≡ es → P w es → Keeps itself (first_losses set w es)
  losses_keep w [] at good = subst (P w) (sym at) good
  losses_keep w (e ∷ es) at good =
      either_way itself (is_loss e.event) (going (post set Handed.Nothing w e es) (λ v. first_losses set v es)) (Goes w)
      (onward (post set Handed.Nothing w e es) (post_keeps Handed.Nothing w e es good) (λ v s. posted_rest set Handed.Nothing w e es v s) (λ v rest here. losses_keep v es rest here))
      (subst (P w) (sym at) good)
    where
      onward : (o : Course Walk) → Keeps itself o → ((v : Walk) → o ≡ Goes v → v.rest ≡ es) → ((v : Walk) → v.rest ≡ es → P v es → Keeps itself (first_losses set v es))
          → Keeps itself (going o (λ v. first_losses set v es))
      onward (Goes v) kept rest next = next v (rest v refl) (subst (P v) (rest v refl) kept)
      onward (UsedUp v) kept rest next = kept
      onward Differs kept rest next = tt

  run_keeps : (journal : List Entry) (cells : List Reading) (m : ℕ) → P (first_walk set journal) journal → Keeps walked (run_along set cells journal m)
  run_keeps journal cells m begun =
      goes_on itself walked (first_losses set (first_walk set journal) journal) (λ w. run_cells set 1 (take m cells) (record { walk = w; definitions = empty; lines = [] }))
      (losses_keep (first_walk set journal) journal refl begun) (λ w here. cells_keep 1 (take m cells) (record { walk = w; definitions = empty; lines = [] }) here)

  pub run_good : (journal : List Entry) (cells : List Reading) (m : ℕ) (r : Ran) → P (first_walk set journal) journal → run_along set cells journal m ≡ Goes r → Good r.walk
  run_good journal cells m r begun q = comes_to walked (run_along set cells journal m) r (run_keeps journal cells m begun) q

  closes_keep : (w : Walk) → Good w → Keeps itself (closes set w)
  closes_keep w good =
      goes_on itself itself (master_posts set Event.Close Handed.Nothing w) (λ v. or_differs (is_over v.rest) (Goes v)) (master_keeps Event.Close Handed.Nothing w good) (λ v here. only (is_over v.rest) v here)
    where
      only : (b : Bool) (v : Walk) → Good v → Keeps itself (or_differs b (Goes v))
      only true v here = here
      only false v here = tt

  pub whole_keeps : (journal : List Entry) (cells : List Reading) → P (first_walk set journal) journal → Keeps itself (whole_run set cells journal)
  whole_keeps journal cells begun =
      goes_on walked itself (run_along set cells journal (length cells)) (λ ran. closes set ran.walk) (run_keeps journal cells (length cells) begun) (λ ran here. closes_keep ran.walk here)
