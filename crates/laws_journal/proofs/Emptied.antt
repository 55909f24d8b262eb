-- With no entry left a run comes to its end, or asks for an entry that is not there.
use Rattle.std.proofs.Common.{◌≡◌, sym, subst, ℕ, suc, Bool, true, false, List, [], ◌∷◌, length}
use Rattle.std.specs.Prelude.{ltb}
use Rattle.expr_tree.specs.declared.sym.Sym.{Sym}
use Rattle.expr_tree.specs.Tree.{Tree, depth}
use Rattle.semantics.specs.Definitions.{Definitions}
use Rattle.semantics.specs.Program.{Request, Call, Mode}
use Rattle.semantics.specs.Play.{Reply, Play, Over, Calls, whole}
use Rattle.journal.specs.Closure.{bundle}
use Rattle.journal.specs.declared.event.Wait.{Wait}
use Rattle.journal.specs.declared.event.Event.{Event}
use Rattle.journal.specs.declared.item.Item.{Item}
use Rattle.journal.specs.Entry.{Handed}
use Rattle.semantics.specs.Ends.{aborted}
use Rattle.journal.specs.Core.{Setup, null, all_free, count, in_mode}
use Rattle.journal.specs.Forms.{Next, Replies, Awaits, Form, Answers, Submits, form}
use Rattle.journal.specs.Run.{Walk, Course, Goes, UsedUp, Differs, going, no_entry, post_next, master_posts, until_resume, wait_for, seeds_of, submit_all, Answered, replied, by_next, by_form, enter, answer, play_along, Reading, Reads, Unread, Ran, run_cell, run_cells, after_cell, with_lines, out_line}
use Rattle.laws_journal.specs.Runs.{AtEnd, UsedUpStays}

module _ (set : Setup) where
  goes_on : {A B : Type 0} (at : A → Walk) (to : B → Walk) (o : Course A) (k : A → Course B) → AtEnd at o → ((a : A) → (at a).rest ≡ [] → AtEnd to (k a)) → AtEnd to (going o k)
  goes_on at to (Goes a) k end next = next a end
  goes_on at to (UsedUp w) k end next = end
  goes_on at to Differs k end next = absurd end

  either_way : {A : Type 0} (at : A → Walk) (b : Bool) (x y : Course A) → AtEnd at x → AtEnd at y → AtEnd at (elim b [ true ↦ x | false ↦ y ])
  either_way at true x y end other = end
  either_way at false x y end other = other

  abbrev itself : Walk → Walk
  itself w = w

  abbrev second : {A : Type 0} → A × Walk → Walk
  second r = r.1

  abbrev answered : Answered → Walk
  answered a = a.walk

  abbrev walked : Ran → Walk
  walked ran = ran.walk

  master_end : (event : Event) (h : Handed) (w : Walk) → w.rest ≡ [] → AtEnd itself (master_posts set event h w)
  master_end event h w end = subst (λ es. AtEnd itself (post_next set event h w es)) (sym end) end

  wait_end : (d : Definitions) (wait : Wait) (w : Walk) → w.rest ≡ [] → AtEnd second (wait_for set d wait w)
  wait_end d wait w end =
      goes_on itself second (master_posts set (Event.Yield wait) (Handed.Lent d) w) (λ v. until_resume set v v.rest) (master_end (Event.Yield wait) (Handed.Lent d) w end)
      (λ v here. subst (λ es. AtEnd second (until_resume set v es)) (sym here) here)

  submit_end : (d : Definitions) (is : List Item) (w : Walk) → w.rest ≡ [] → AtEnd second (submit_all set d is w)
  submit_end d [] w end = end
  submit_end d (i ∷ is) w end =
      goes_on itself second (master_posts set (Event.Submit (suc (length w.core.items))) (Handed.Given i (bundle set.names d (seeds_of i))) w) (λ v. going (submit_all set d is v) numbered)
      (master_end (Event.Submit (suc (length w.core.items))) (Handed.Given i (bundle set.names d (seeds_of i))) w end)
      (λ v here. goes_on second second (submit_all set d is v) numbered (submit_end d is v here) (λ r there. there))
    where
      numbered : List ℕ × Walk → Course (List ℕ × Walk)
      numbered r = Goes (suc (length w.core.items) ∷ r.0, r.1)

  one_end : (v : Tree) (d : Definitions) (event : Event) (w : Walk) → w.rest ≡ [] → AtEnd answered (replied v d (master_posts set event Handed.Nothing w))
  one_end v d event w end =
      goes_on itself answered (master_posts set event Handed.Nothing w) (λ u. Goes (record { reply = Reply.Replied v; after = d; walk = u })) (master_end event Handed.Nothing w end) (λ u here. here)

  by_next_end : (d : Definitions) (n : Next) (w : Walk) → w.rest ≡ [] → AtEnd answered (by_next set d n w)
  by_next_end d (Replies reply) w end = end
  by_next_end d (Awaits wait k) w end =
      goes_on second answered (wait_for set d wait w) (λ r. Goes (record { reply = k r.0; after = (r.1).core.definitions; walk = r.1 })) (wait_end d wait w end) (λ r here. here)

  by_form_end : (d : Definitions) (f : Form) (w : Walk) → w.rest ≡ [] → AtEnd answered (by_form set d f w)
  by_form_end d (Answers reply after) w end = end
  by_form_end d (Submits items k) w end =
      goes_on second answered (submit_all set d items w) (λ r. by_next set d (k r.0) r.1) (submit_end d items w end) (λ r here. by_next_end d (k r.0) r.1 here)

  enter_end : (d : Definitions) (ls : List Sym) (w : Walk) → w.rest ≡ [] → AtEnd answered (enter set d ls w)
  enter_end d ls w end =
      either_way answered (all_free w.core ls) (entered d w) (going (wait_for set d (Wait.Locks ls) w) (λ r. entered (r.1).core.definitions r.1)) (one_end (null set.names) d (Event.Enter ls) w end)
      (goes_on second answered (wait_for set d (Wait.Locks ls) w) (λ r. entered (r.1).core.definitions r.1) (wait_end d (Wait.Locks ls) w end)
      (λ r here. one_end (null set.names) (r.1).core.definitions (Event.Enter ls) r.1 here))
    where
      entered : Definitions → Walk → Course Answered
      entered after v = replied (null set.names) after (master_posts set (Event.Enter ls) Handed.Nothing v)

  answer_end : (c : Call) (d : Definitions) (w : Walk) → w.rest ≡ [] → AtEnd answered (answer set c d w)
  answer_end (Call.Sends Request.Count) d w end = one_end _ d (Event.Ask (count w.core)) w end
  answer_end (Call.Sends (Request.Print t)) d w end = one_end (null set.names) d (Event.Print t) w end
  answer_end Call.Leave d w end = one_end (null set.names) d Event.Leave w end
  answer_end (Call.Enter ls) d w end = enter_end d ls w end
  answer_end (Call.Sends (Request.Outside e)) d w end = by_form_end d (form set w.core d e) w end
  answer_end (Call.Sends (Request.Access e)) d w end = subst (λ es. AtEnd answered (no_entry w es)) (sym end) end

  play_end : (t : Play) (w : Walk) → w.rest ≡ [] → AtEnd second (play_along set t w)
  play_end (Over o s) w end = end
  play_end (Calls c s k) w end =
      goes_on answered second (answer set c s.definitions w) (λ a. play_along set (k a.reply a.after) a.walk) (answer_end c s.definitions w end) (λ a here. play_end (k a.reply a.after) a.walk here)

  cell_end : (n : ℕ) (c : Reading) (ran : Ran) → ran.walk.rest ≡ [] → AtEnd walked (run_cell set n c ran)
  cell_end n (Unread at) ran end = end
  cell_end n (Reads e) ran end =
      either_way walked (ltb set.limits.depth (depth e)) (Goes (with_lines (out_line set.names n (aborted set.names)) ran)) (going (play_along set t ran.walk) (λ r. Goes (after_cell set n ran r))) end
      (goes_on second walked (play_along set t ran.walk) (λ r. Goes (after_cell set n ran r)) (play_end t ran.walk end) (λ r here. here))
    where
      t : Play
      t = whole (in_mode set Mode.Cell 0) ran.definitions e

  cells_end : (n : ℕ) (cs : List Reading) (ran : Ran) → ran.walk.rest ≡ [] → AtEnd walked (run_cells set n cs ran)
  cells_end n [] ran end = end
  cells_end n (c ∷ cs) ran end = goes_on walked walked (run_cell set n c ran) (λ r. run_cells set (suc n) cs r) (cell_end n c ran end) (λ r here. cells_end (suc n) cs r here)

pub used_up_stays : UsedUpStays
used_up_stays = (answer_end, play_end, cells_end)
