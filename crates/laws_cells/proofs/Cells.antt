-- A journal answers each call by a value or a stop, and no Leave by a stop; so what ends a cell is a value, a stop or a throw, outside
-- sections.
use Rattle.std.proofs.Common.{◌≡◌, refl, sym, subst, Bool, true, false, T, List, [], ◌∷◌}
use Rattle.expr_tree.specs.Tree.{Tree}
use Rattle.semantics.specs.Definitions.{Definitions}
use Rattle.semantics.specs.Program.{Mode, Call, Request, Sends, Enter, Leave}
use Rattle.semantics.specs.Play.{Setting, End, Value, Stopped, Throwing, Thrown, Quit, Closed, Starved, Reply, Play}
use Rattle.journal.specs.declared.event.Event.{Event}
use Rattle.journal.specs.declared.event.Entry.{Entry}
use Rattle.journal.specs.declared.event.Wait.{Wait}
use Rattle.journal.specs.Entry.{Handed}
use Rattle.journal.specs.Core.{Setup, in_mode, null, all_free}
use Rattle.journal.specs.Forms.{Next, Replies, Awaits, Form, Answers, Submits, form}
use Rattle.journal.specs.Run.{Walk, Course, Goes, UsedUp, Differs, going, no_entry, master_posts, wait_for, submit_all, Answered, replied, by_next, by_form, answer, Finish, play_along}
use Rattle.laws_calls.specs.Calls.{unstopped, NoneOpen, Fits, ended, called}
use Rattle.laws_calls.specs.Ends.{answered, may_end, EndsIn, at_end, at_call}
use Rattle.laws_calls.proofs.Passes.{calls_fit, ends_fit}
use Rattle.laws_cells.specs.Cells.{ends_cell, EndsOutside, CellsEndOutside}
use Rattle.laws_cells.proofs.Forms.{NextAnswers, replies, awaits, FormAnswers, answers, submits, is_answered, form-answers}

-- what holds of what a run comes to
abbrev pub Every : {A : Type 0} → (A → Type 0) → Course A → Type 0
Every P (Goes a) = P a
Every P (UsedUp w) = Unit {0}
Every P Differs = Unit {0}

every : {A : Type 0} (P : A → Type 0) (o : Course A) → ((a : A) → P a) → Every P o
every P (Goes a) all = all a
every P (UsedUp w) all = tt
every P Differs all = tt

then_every : {A B : Type 0} (P : B → Type 0) (o : Course A) (k : A → Course B) → ((a : A) → Every P (k a)) → Every P (going o k)
then_every P (Goes a) k next = next a
then_every P (UsedUp w) k next = tt
then_every P Differs k next = tt

-- how a journal answers
pub record Answers' (c : Call) (a : Answered) : Type 0 where
  pub unstopped : unstopped c a.reply true ≡ true
  pub answered : answered a.reply true ≡ true

module _ (set : Setup) where
  replied-so : (c : Call) (v : Tree) (d : Definitions) (o : Course Walk) → unstopped c (Reply.Replied v) true ≡ true → Every (Answers' c) (replied v d o)
  replied-so c v d o is = then_every (Answers' c) o _ (λ w. record { unstopped = is; answered = refl })

  of_next : (q : Request) (d : Definitions) (n : Next) (w : Walk) → NextAnswers n → Every (Answers' (Sends q)) (by_next set d n w)
  of_next q d (Replies r) w (replies is) = record { unstopped = refl; answered = is_answered is }
  of_next q d (Awaits wait k) w (awaits is) = then_every (Answers' (Sends q)) (wait_for set d wait w) _ (λ r. record { unstopped = refl; answered = is_answered (is r.0) })

  of_form : (q : Request) (d : Definitions) (f : Form) (w : Walk) → FormAnswers f → Every (Answers' (Sends q)) (by_form set d f w)
  of_form q d (Answers r after) w (answers is) = record { unstopped = refl; answered = is_answered is }
  of_form q d (Submits items k) w (submits is) = then_every (Answers' (Sends q)) (submit_all set d items w) _ (λ r. of_next q d (k r.0) r.1 (is r.0))

  nothing_so : (c : Call) (w : Walk) (es : List Entry) → Every (Answers' c) (no_entry w es)
  nothing_so c w [] = tt
  nothing_so c w (e ∷ es) = tt

  pub answers_so : (c : Call) (d : Definitions) (w : Walk) → Every (Answers' c) (answer set c d w)
  answers_so (Sends Request.Count) d w = replied-so (Sends Request.Count) _ d _ refl
  answers_so (Sends (Request.Print t)) d w = replied-so (Sends (Request.Print t)) _ d _ refl
  answers_so (Sends (Request.Outside e)) d w = of_form (Request.Outside e) d (form set w.core d e) w (form-answers set w.core d e)
  answers_so (Sends (Request.Access e)) d w = nothing_so (Sends (Request.Access e)) w w.rest
  answers_so (Enter locks) d w = go (all_free w.core locks)
    where
      go : (b : Bool) → Every (Answers' (Enter locks)) (elim b [
        | true ↦ replied (null set.names) d (master_posts set (Event.Enter locks) Handed.Nothing w)
        | false ↦ going (wait_for set d (Wait.Locks locks) w) (λ r. replied (null set.names) (r.1).core.definitions (master_posts set (Event.Enter locks) Handed.Nothing r.1))
      ])
      go true = replied-so (Enter locks) _ d _ refl
      go false = then_every (Answers' (Enter locks)) (wait_for set d (Wait.Locks locks) w) _ (λ r. replied-so (Enter locks) _ _ _ refl)
  answers_so Leave d w = replied-so Leave _ d _ refl

  -- ---- ends

  pub cell_end : (o : End) {now : Bool} → T (may_end Mode.Cell true o) → NoneOpen o now → T (ends_cell o) × (now ≡ false)
  cell_end (Value v) may none = (tt, none)
  cell_end (Stopped c) may none = (tt, none)
  cell_end (Throwing v) may none = absurd may
  cell_end (Thrown v) may none = (tt, none)
  cell_end Quit may none = absurd may
  cell_end Closed may none = absurd may
  cell_end Starved may none = absurd may

  after_call : (c : Call) (k : Answered → Course (Finish × Walk)) (o : Course Answered) → Every (Answers' c) o → ((a : Answered) → Answers' c a → EndsOutside (k a)) → EndsOutside (going o k)
  after_call c k (Goes a) so next = next a so
  after_call c k (UsedUp w) so next = tt
  after_call c k Differs so next = tt

  module _ (at : Setting) where
    ends_outside : {so_far told now : Bool} {t : Play} → so_far ≡ true → told ≡ true → Fits at.names at.mode so_far now t → EndsIn Mode.Cell told t → (w : Walk) → EndsOutside (play_along set t w)
    ends_outside sure yes' (ended {o = o} {s = s} is none) (at_end may) w =
        subst (λ b. T (ends_cell o) × (b ≡ false)) (sym is) (cell_end o (subst (λ b. T (may_end Mode.Cell b o)) yes' may) (none sure))
    ends_outside sure yes' (called {c = c} {s = s} {k = k} is may next) (at_call then') w =
        after_call c (λ a. play_along set (k a.reply a.after) a.walk) (answer set c s.definitions w) (answers_so c s.definitions w)
        (λ a so. ends_outside (subst (λ b. unstopped c a.reply b ≡ true) (sym sure) so.unstopped) (subst (λ b. answered a.reply b ≡ true) (sym yes') so.answered)
        (next a.reply a.after) (then' a.reply a.after) a.walk)

pub cells_end_outside : CellsEndOutside
cells_end_outside set d e w = ends_outside set (in_mode set Mode.Cell 0) refl refl (calls_fit (in_mode set Mode.Cell 0) d e) (ends_fit (in_mode set Mode.Cell 0) d e) w
