-- The run uses up the journal from the front and does not look beyond what it uses: what is defined on a journal is defined, with the same end, on every longer one.
use Rattle.std.proofs.Common.{◌≡◌, refl, sym, ap, ◌∙◌, ℕ, suc, Bool, true, false, List, [], ◌∷◌, ◌++◌, length, Option, Some, None}
use Rattle.std.specs.Prelude.{◌&&◌, ◌==◌, ltb, pos}
use Rattle.expr_tree.specs.declared.sym.Sym.{Sym}
use Rattle.expr_tree.specs.Tree.{Tree, integer, depth}
use Rattle.semantics.specs.Definitions.{Definitions}
use Rattle.semantics.specs.Program.{Request, Call, Mode}
use Rattle.semantics.specs.Play.{Reply, Play, Over, Calls, whole}
use Rattle.journal.specs.Closure.{bundle}
use Rattle.journal.specs.declared.event.Wait.{Wait}
use Rattle.journal.specs.declared.event.Event.{Event}
use Rattle.journal.specs.declared.event.Entry.{Entry}
use Rattle.journal.specs.declared.item.Item.{Item}
use Rattle.journal.specs.Entry.{Posted, Handed}
use Rattle.semantics.specs.Ends.{aborted}
use Rattle.journal.specs.Core.{null, Setup, Core, step, all_free, wait_reply, count, in_mode}
use Rattle.journal.specs.Forms.{Next, Replies, Awaits, Form, Answers, Submits, form}
use Rattle.laws_journal.specs.Laws.{longer, longer_answer, longer_ran}
use Rattle.journal.specs.Run.{Walk, Course, Goes, going, or_differs, post, post_next, master_posts, is_event, is_resume, until_resume, wait_for, seeds_of, submit_all, Answered, replied, by_next, by_form, enter, answer, Finish, play_along, Reading, Reads, Unread, Ran, run_cell, run_cells, after_cell, with_lines, out_line, Syntax}
use Rattle.laws_journal.proofs.Courses.{goes_is, used≢goes, differs≢goes, no_entry≢goes, gone, on_step}

abbrev longer_pair : {A : Type 0} → List Entry → A × Walk → A × Walk
longer_pair further r = (r.0, longer further r.1)

-- ---- courses

-- what holds of both parts holds of the whole
carried : {A B : Type 0} (o o' : Course A) (k k' : A → Course B) (g : A → A) (h : B → B)
    → ((a : A) → o ≡ Goes a → o' ≡ Goes (g a)) → ((a : A) (b : B) → k a ≡ Goes b → k' (g a) ≡ Goes (h b))
    → (b : B) → going o k ≡ Goes b → going o' k' ≡ Goes (h b)
carried o o' k k' g h one two b e = let r = gone o k b e in ap (λ x. going x k') (one r.0 r.1) ∙ two r.0 b r.2

-- the last part
last : {B : Type 0} (h : B → B) (x b : B) → ◌≡◌ {A = Course B} (Goes x) (Goes b) → ◌≡◌ {A = Course B} (Goes (h x)) (Goes (h b))
last h x b e = ap (λ o. going o (λ y. Goes (h y))) e

whenever : {A : Type 0} (b : Bool) (o o' : Course A) (h : A → A) → ((a : A) → o ≡ Goes a → o' ≡ Goes (h a)) → (a : A) → or_differs b o ≡ Goes a → or_differs b o' ≡ Goes (h a)
whenever true o o' h f a e = f a e
whenever false o o' h f a e = absurd (differs≢goes e)

stepping : (o : Option Core) (f g : Core → Walk) (h : Walk → Walk) → ((c : Core) → h (f c) ≡ g c) → (v : Walk) → on_step o f ≡ Goes v → on_step o g ≡ Goes (h v)
stepping None f g h same v e = absurd (differs≢goes e)
stepping (Some c) f g h same v e = ap Goes (sym (same c) ∙ ap h (goes_is e))

chosen : {A : Type 0} (b : Bool) (x y x' y' : Course A) (h : A → A) → ((a : A) → x ≡ Goes a → x' ≡ Goes (h a)) → ((a : A) → y ≡ Goes a → y' ≡ Goes (h a))
    → (a : A) → elim b [ true ↦ x | false ↦ y ] ≡ Goes a → elim b [ true ↦ x' | false ↦ y' ] ≡ Goes (h a)
chosen true x y x' y' h one other a e = one a e
chosen false x y x' y' h one other a e = other a e

-- ---- entries

post_grows : (set : Setup) (h : Handed) (w : Walk) (e : Entry) (es further : List Entry) (v : Walk)
    → post set h w e es ≡ Goes v → post set h (longer further w) e (es ++ further) ≡ Goes (longer further v)
post_grows set h w e es further v =
    stepping (step set w.core p) (λ c. after c es) (λ c. after c (es ++ further)) (longer further) (λ c. refl) v
  where
    p : Posted
    p = record { entry = e; handed = h }

    after : Core → List Entry → Walk
    after c rest = record { core = c; posted = w.posted ++ p ∷ []; rest = rest }

next_grows : (set : Setup) (event : Event) (h : Handed) (w : Walk) (es further : List Entry) (v : Walk)
    → post_next set event h w es ≡ Goes v → post_next set event h (longer further w) (es ++ further) ≡ Goes (longer further v)
next_grows set event h w [] further v r = absurd (used≢goes r)
next_grows set event h w (e ∷ es) further v r =
    whenever ((e.kernel == 0) && is_event event e.event) (post set h w e es) (post set h (longer further w) e (es ++ further)) (longer further) (λ a q. post_grows set h w e es further a q) v r

master_grows : (set : Setup) (event : Event) (h : Handed) (w : Walk) (further : List Entry) (v : Walk)
    → master_posts set event h w ≡ Goes v → master_posts set event h (longer further w) ≡ Goes (longer further v)
master_grows set event h w further v r = next_grows set event h w w.rest further v r

until_grows : (set : Setup) (w : Walk) (es further : List Entry) (r : List Tree × Walk)
    → until_resume set w es ≡ Goes r → until_resume set (longer further w) (es ++ further) ≡ Goes (longer_pair further r)
until_grows set w [] further r q = absurd (used≢goes q)
until_grows set w (e ∷ es) further r q =
    carried (post set Handed.Nothing w e es) (post set Handed.Nothing (longer further w) e (es ++ further)) (λ v. here v es) (λ v. here v (es ++ further)) (longer further) (longer_pair further)
    (λ v. post_grows set Handed.Nothing w e es further v)
    (λ v b. chosen (is_resume e.event) (Goes (wait_reply set.names w.core, v)) (until_resume set v es) (Goes (wait_reply set.names w.core, longer further v)) (until_resume set (longer further v) (es ++ further)) (longer_pair further)
    (λ a p. last (longer_pair further) (wait_reply set.names w.core, v) a p) (λ a p. until_grows set v es further a p) b)
    r q
  where
    here : Walk → List Entry → Course (List Tree × Walk)
    here v rest = elim (is_resume e.event) [ true ↦ Goes (wait_reply set.names w.core, v) | false ↦ until_resume set v rest ]

wait_grows : (set : Setup) (d : Definitions) (wait : Wait) (w : Walk) (further : List Entry) (r : List Tree × Walk)
    → wait_for set d wait w ≡ Goes r → wait_for set d wait (longer further w) ≡ Goes (longer_pair further r)
wait_grows set d wait w further r q =
    carried2 (master_posts set (Event.Yield wait) (Handed.Lent d) w) (master_posts set (Event.Yield wait) (Handed.Lent d) (longer further w))
    (λ v. until_resume set v v.rest) (longer further) (longer_pair further)
    (λ v. master_grows set (Event.Yield wait) (Handed.Lent d) w further v) (λ v b p. until_grows set v v.rest further b p) r q
  where
    carried2 : (o o' : Course Walk) (k : Walk → Course (List Tree × Walk)) (g : Walk → Walk) (h : List Tree × Walk → List Tree × Walk)
        → ((a : Walk) → o ≡ Goes a → o' ≡ Goes (g a)) → ((a : Walk) (b : List Tree × Walk) → k a ≡ Goes b → k (g a) ≡ Goes (h b))
        → (b : List Tree × Walk) → going o k ≡ Goes b → going o' k ≡ Goes (h b)
    carried2 o o' k g h one two b e = carried o o' k k g h one two b e

submit_grows : (set : Setup) (d : Definitions) (is : List Item) (w : Walk) (further : List Entry) (r : List ℕ × Walk)
    → submit_all set d is w ≡ Goes r → submit_all set d is (longer further w) ≡ Goes (longer_pair further r)
submit_grows set d [] w further r q = last (longer_pair further) ([], w) r q
submit_grows set d (i ∷ is) w further r q =
    carried (master_posts set event handed w) (master_posts set event handed (longer further w)) rest rest (longer further) (longer_pair further)
    (λ v. master_grows set event handed w further v)
    (λ v b. carried (submit_all set d is v) (submit_all set d is (longer further v)) (λ s. Goes (numbered s)) (λ s. Goes (numbered s)) (longer_pair further) (longer_pair further)
    (λ s. submit_grows set d is v further s) (λ s t. last (longer_pair further) (numbered s) t) b)
    r q
  where
    event : Event
    event = Event.Submit (suc (length w.core.items))

    handed : Handed
    handed = Handed.Given i (bundle set.names d (seeds_of i))

    numbered : List ℕ × Walk → List ℕ × Walk
    numbered s = (suc (length w.core.items) ∷ s.0, s.1)

    rest : Walk → Course (List ℕ × Walk)
    rest v = going (submit_all set d is v) (λ s. Goes (numbered s))

-- ---- calls

replied_grows : (v : Tree) (d : Definitions) (o o' : Course Walk) (further : List Entry) → ((w : Walk) → o ≡ Goes w → o' ≡ Goes (longer further w))
    → (a : Answered) → replied v d o ≡ Goes a → replied v d o' ≡ Goes (longer_answer further a)
replied_grows v d o o' further h a q =
    carried o o' (λ w. Goes (made w)) (λ w. Goes (made w)) (longer further) (longer_answer further) h (λ w b p. last (longer_answer further) (made w) b p) a q
  where
    made : Walk → Answered
    made w = record { reply = Reply.Replied v; after = d; walk = w }

by_next_grows : (set : Setup) (d : Definitions) (n : Next) (w : Walk) (further : List Entry) (a : Answered)
    → by_next set d n w ≡ Goes a → by_next set d n (longer further w) ≡ Goes (longer_answer further a)
by_next_grows set d (Replies reply) w further a q = last (longer_answer further) (record { reply = reply; after = d; walk = w }) a q
by_next_grows set d (Awaits wait k) w further a q =
    carried (wait_for set d wait w) (wait_for set d wait (longer further w)) (λ r. Goes (made r)) (λ r. Goes (made r)) (longer_pair further) (longer_answer further)
    (λ r. wait_grows set d wait w further r) (λ r b p. last (longer_answer further) (made r) b p) a q
  where
    made : List Tree × Walk → Answered
    made r = record { reply = k r.0; after = (r.1).core.definitions; walk = r.1 }

by_form_grows : (set : Setup) (d : Definitions) (f : Form) (w : Walk) (further : List Entry) (a : Answered)
    → by_form set d f w ≡ Goes a → by_form set d f (longer further w) ≡ Goes (longer_answer further a)
by_form_grows set d (Answers reply after) w further a q = last (longer_answer further) (record { reply = reply; after = after; walk = w }) a q
by_form_grows set d (Submits items k) w further a q =
    carried (submit_all set d items w) (submit_all set d items (longer further w)) next next (longer_pair further) (longer_answer further)
    (λ r. submit_grows set d items w further r) (λ r b p. by_next_grows set d (k r.0) r.1 further b p) a q
  where
    next : List ℕ × Walk → Course Answered
    next r = by_next set d (k r.0) r.1

enter_grows : (set : Setup) (d : Definitions) (ls : List Sym) (w : Walk) (further : List Entry) (a : Answered)
    → enter set d ls w ≡ Goes a → enter set d ls (longer further w) ≡ Goes (longer_answer further a)
enter_grows set d ls w further a q =
    chosen (all_free w.core ls) (entered w d) (going (wait_for set d (Wait.Locks ls) w) later) (entered (longer further w) d) (going (wait_for set d (Wait.Locks ls) (longer further w)) later) (longer_answer further)
    (λ b p. grows w d b p)
    (λ b p. carried (wait_for set d (Wait.Locks ls) w) (wait_for set d (Wait.Locks ls) (longer further w)) later later (longer_pair further) (longer_answer further)
    (λ r. wait_grows set d (Wait.Locks ls) w further r) (λ r s t. grows r.1 (r.1).core.definitions s t) b p)
    a q
  where
    entered : Walk → Definitions → Course Answered
    entered v after = replied (null set.names) after (master_posts set (Event.Enter ls) Handed.Nothing v)

    later : List Tree × Walk → Course Answered
    later r = entered r.1 (r.1).core.definitions

    grows : (v : Walk) (after : Definitions) (b : Answered) → entered v after ≡ Goes b → entered (longer further v) after ≡ Goes (longer_answer further b)
    grows v after b p =
        replied_grows (null set.names) after (master_posts set (Event.Enter ls) Handed.Nothing v) (master_posts set (Event.Enter ls) Handed.Nothing (longer further v)) further
        (λ u s. master_grows set (Event.Enter ls) Handed.Nothing v further u s) b p

one_grows : (set : Setup) (v : Tree) (d : Definitions) (event : Event) (w : Walk) (further : List Entry) (a : Answered)
    → replied v d (master_posts set event Handed.Nothing w) ≡ Goes a → replied v d (master_posts set event Handed.Nothing (longer further w)) ≡ Goes (longer_answer further a)
one_grows set v d event w further a q =
    replied_grows v d (master_posts set event Handed.Nothing w) (master_posts set event Handed.Nothing (longer further w)) further (λ u s. master_grows set event Handed.Nothing w further u s) a q

pub answer_grows : (set : Setup) (c : Call) (d : Definitions) (w : Walk) (further : List Entry) (a : Answered)
    → answer set c d w ≡ Goes a → answer set c d (longer further w) ≡ Goes (longer_answer further a)
answer_grows set (Call.Sends Request.Count) d w further a q = one_grows set (integer (pos (count w.core))) d (Event.Ask (count w.core)) w further a q
answer_grows set (Call.Sends (Request.Print t)) d w further a q = one_grows set (null set.names) d (Event.Print t) w further a q
answer_grows set Call.Leave d w further a q = one_grows set (null set.names) d Event.Leave w further a q
answer_grows set (Call.Enter ls) d w further a q = enter_grows set d ls w further a q
answer_grows set (Call.Sends (Request.Outside e)) d w further a q = by_form_grows set d (form set w.core d e) w further a q
answer_grows set (Call.Sends (Request.Access e)) d w further a q = absurd (no_entry≢goes w w.rest a q)

pub play_grows : (set : Setup) (t : Play) (w : Walk) (further : List Entry) (r : Finish × Walk)
    → play_along set t w ≡ Goes r → play_along set t (longer further w) ≡ Goes (longer_pair further r)
play_grows set (Over end here) w further s q = last (longer_pair further) (record { end = end; state = here }, w) s q
play_grows set (Calls c here k) w further s q =
    let r = gone (answer set c here.definitions w) (λ a. play_along set (k a.reply a.after) a.walk) s q in
    ap (λ o. going o (λ a. play_along set (k a.reply a.after) a.walk)) (answer_grows set c here.definitions w further r.0 r.1) ∙ play_grows set (k (r.0).reply (r.0).after) (r.0).walk further s r.2

-- ---- cells

cell_grows : (set : Setup) (n : ℕ) (c : Reading) (ran : Ran) (further : List Entry) (r : Ran)
    → run_cell set n c ran ≡ Goes r → run_cell set n c (longer_ran further ran) ≡ Goes (longer_ran further r)
cell_grows set n (Unread at) ran further r q = last (longer_ran further) (with_lines (Syntax n at ∷ []) ran) r q
cell_grows set n (Reads e) ran further r q =
    chosen (ltb set.limits.depth (depth e)) (Goes (deep ran)) (walked ran) (Goes (deep (longer_ran further ran))) (walked (longer_ran further ran)) (longer_ran further)
    (λ a p. last (longer_ran further) (deep ran) a p)
    (λ a p. carried (play_along set t ran.walk) (play_along set t (longer further ran.walk)) (λ s. Goes (after_cell set n ran s)) (λ s. Goes (after_cell set n (longer_ran further ran) s)) (longer_pair further) (longer_ran further)
    (λ s. play_grows set t ran.walk further s) (λ s b p'. last (longer_ran further) (after_cell set n ran s) b p') a p)
    r q
  where
    t : Play
    t = whole (in_mode set Mode.Cell 0) ran.definitions e

    deep : Ran → Ran
    deep x = with_lines (out_line set.names n (aborted set.names)) x

    walked : Ran → Course Ran
    walked x = going (play_along set t x.walk) (λ s. Goes (after_cell set n x s))

pub cells_grow : (set : Setup) (n : ℕ) (cs : List Reading) (ran : Ran) (further : List Entry) (r : Ran)
    → run_cells set n cs ran ≡ Goes r → run_cells set n cs (longer_ran further ran) ≡ Goes (longer_ran further r)
cells_grow set n [] ran further r q = last (longer_ran further) ran r q
cells_grow set n (c ∷ cs) ran further r q =
    carried (run_cell set n c ran) (run_cell set n c (longer_ran further ran)) (λ s. run_cells set (suc n) cs s) (λ s. run_cells set (suc n) cs s) (longer_ran further) (longer_ran further)
    (λ s. cell_grows set n c ran further s) (λ s b p. cells_grow set (suc n) cs s further b p) r q
