-- A legal journal is a replay: what the run posts along it is its entries, and the core at its end is their fold.
use Rattle.std.proofs.Common.{◌≡◌, refl, sym, ap, subst, ◌∙◌, ℕ, Bool, true, false, List, [], ◌∷◌, ◌++◌, length, append-nil, Option, Some, None, true≢false}
use Rattle.journal.specs.Places.{given}
use Rattle.journal.specs.declared.event.Event.{Event}
use Rattle.journal.specs.declared.event.Entry.{Entry}
use Rattle.journal.specs.Entry.{Posted, Handed}
use Rattle.journal.specs.Core.{Setup, Core, start, step, allowed, effect, replay, replay_from}
use Rattle.journal.specs.Run.{Walk, Course, Goes, UsedUp, Differs, or_differs, Ran, used_by, begun_by, arrived, post, master_posts, Reading, run_along, closes, whole_run, posted_by, is_over}
use Rattle.laws_journal.specs.Laws.{entries_of}
use Rattle.laws_journal.specs.Runs.{Along}
use Rattle.laws_journal.proofs.Tables.{none≢some, some_is, split, opened}
use Rattle.laws_journal.proofs.Courses.{arrived_is, goes_is, gone, goes_so, one_step}
use Rattle.laws_journal.proofs.Kept.{Keeps, master_good, run_good, whole_keeps}

-- ---- one entry more

unsplit : {A : Type 0} (b : Bool) (x : Option A) (y : A) → b ≡ true → x ≡ Some y → elim b [ true ↦ x | false ↦ None ] ≡ Some y
unsplit true x y b e = e
unsplit false x y b e = absurd (true≢false (sym b))

pub one_more : (set : Setup) (c z y : Core) (ps : List Posted) (p : Posted) → replay_from set c ps ≡ Some z → step set z p ≡ Some y → replay_from set c (ps ++ p ∷ []) ≡ Some y
one_more set c z y [] p r s = subst (λ x. step set x p ≡ Some y) (sym (some_is r)) s
one_more set c z y (q ∷ qs) p r s =
    let parts = split (allowed set c q) (replay_from set (effect set c q) qs) z r in
    unsplit (allowed set c q) (replay_from set (effect set c q) (qs ++ p ∷ [])) y parts.0 (one_more set (effect set c q) z y qs p parts.1 s)

moved_over : (ps : List Posted) (p : Posted) (es : List Entry) → entries_of (ps ++ p ∷ []) ++ es ≡ entries_of ps ++ p.entry ∷ es
moved_over [] p es = refl
moved_over (q ∷ qs) p es = ap (λ xs. q.entry ∷ xs) (moved_over qs p es)

-- ---- walks

module _ (set : Setup) (journal : List Entry) where
  abbrev pub Good : Walk → Type 0
  Good w = Along set journal w w.rest

  pub post_good : (h : Handed) (w : Walk) (e : Entry) (es : List Entry) (v : Walk) → Along set journal w (e ∷ es) → post set h w e es ≡ Goes v → Good v
  post_good h w e es v good r =
      let s = one_step (step set w.core p) after v r in
      subst Good s.2 (record {
        all = moved_over w.posted p es ∙ good.all;
        folds = one_more set (start set) w.core s.0 w.posted p good.folds s.1;
      })
    where
      p : Posted
      p = record { entry = e; handed = h }

      after : Core → Walk
      after c = record { core = c; posted = w.posted ++ p ∷ []; rest = es }

  nothing_more : (es : List Entry) → is_over es ≡ true → es ≡ []
  nothing_more [] e = refl
  nothing_more (x ∷ xs) e = absurd (true≢false (sym e))

  no_rest : (xs ys : List Entry) → ys ≡ [] → xs ++ ys ≡ journal → xs ≡ journal
  no_rest xs ys none e = sym (append-nil xs) ∙ ap (λ zs. xs ++ zs) (sym none) ∙ e

  -- the whole journal, with what was handed in
  pub whole_good : (cells : List Reading) (ps : List Posted) → posted_by set cells journal ≡ Some ps → (entries_of ps ≡ journal) × ((c : Core) × (replay set ps ≡ Some c))
  whole_good cells ps q =
      let f = opened (arrived (whole_run set cells journal)) (λ w. Some w.posted) ps q in
      let s = gone (run_along set cells journal (length cells)) (λ ran. closes set ran.walk) f.0 (arrived_is (whole_run set cells journal) f.0 f.1) in
      let u = gone (master_posts set Event.Close Handed.Nothing (s.0).walk) (λ v. or_differs (is_over v.rest) (Goes v)) f.0 s.2 in
      let v = goes_so (is_over (u.0).rest) (Goes u.0) f.0 u.2 in
      let good = master_good set (Along set journal) post_good Event.Close Handed.Nothing (s.0).walk u.0 (run_good set (Along set journal) post_good journal cells (length cells) s.0 (record { all = refl; folds = refl }) s.1) u.1 in
      let same : (u.0).posted ≡ ps = ap (λ w. w.posted) (goes_is v.1) ∙ some_is f.2 in
      (ap entries_of (sym same) ∙ no_rest (entries_of (u.0).posted) (u.0).rest (nothing_more (u.0).rest v.0) good.all, ((u.0).core, ap (λ xs. replay set xs) (sym same) ∙ good.folds))

  -- the same of a journal that may end sooner
  pub begun_good : (cells : List Reading) (ps : List Posted) → begun_by set cells journal ≡ Some ps → (entries_of ps ≡ journal) × ((c : Core) × (replay set ps ≡ Some c))
  begun_good cells ps q = go (whole_run set cells journal) refl (whole_keeps set (Along set journal) post_good journal cells (record { all = refl; folds = refl })) q
    where
      go : (o : Course Walk) → whole_run set cells journal ≡ o → Keeps set (Along set journal) post_good (λ w. w) o → used_by o ≡ Some ps → (entries_of ps ≡ journal) × ((c : Core) × (replay set ps ≡ Some c))
      go (Goes w) is kept e = whole_good cells ps (ap (λ o. given (arrived o) (λ v. Some v.posted)) is ∙ e)
      go (UsedUp w) is kept e =
          let same : w.posted ≡ ps = some_is e in
          (ap entries_of (sym same) ∙ no_rest (entries_of w.posted) w.rest kept.1 kept.0.all, (w.core, ap (λ xs. replay set xs) (sym same) ∙ kept.0.folds))
      go Differs is kept e = absurd (none≢some e)

  -- what the first m cells use up
  pub run_posts : (cells : List Reading) (m : ℕ) (ran : Ran) → run_along set cells journal m ≡ Goes ran → Along set journal ran.walk ran.walk.rest
  run_posts cells m ran q = run_good set (Along set journal) post_good journal cells m ran (record { all = refl; folds = refl }) q
