-- A legal journal is composed of the losses in front, the cells, Close, and each kernel's run; a run is composed of its cells.
use Rattle.std.proofs.Common.{◌≡◌, refl, sym, ap, subst, ◌∙◌, ℕ, zero, suc, Bool, true, false, List, [], ◌∷◌, ◌++◌, length, take, Some, T, true≢false, arith}
use Rattle.std.specs.Prelude.{◌&&◌, ◌≤◌, ◌+◌, leb}
use Rattle.std.proofs.lemmas.Bool.{leb-true, leb-false}
use Rattle.semantics.specs.Definitions.{empty}
use Rattle.journal.specs.Places.{given, is_some}
use Rattle.journal.specs.declared.event.Event.{Event}
use Rattle.journal.specs.declared.event.Entry.{Entry}
use Rattle.journal.specs.Entry.{Handed, Posted}
use Rattle.journal.specs.Core.{Setup}
use Rattle.journal.specs.Follow.{Plan, kernel_run, KernelRun, all_run}
use Rattle.journal.specs.Run.{Walk, Course, Goes, UsedUp, Differs, going, or_differs, arrived, master_posts, Reading, Ran, run_cell, run_cells, first_losses, first_walk, run_along, is_over, closes, whole_run, used_by, kernels_run, legal, Legal}
use Rattle.laws_journal.specs.Runs.{Composed, LegalComposed, LegalStarted, CellsJoin}
use Rattle.laws_journal.proofs.Tables.{both}
use Rattle.laws_journal.proofs.Courses.{goes_is, gone, goes_so}

all_taken : {A : Type 0} (xs : List A) → take (length xs) xs ≡ xs
all_taken [] = refl
all_taken (x ∷ xs) = ap (λ ys. x ∷ ys) (all_taken xs)

-- ---- each kernel

holds : (b : Bool) → T b → b ≡ true
holds true h = refl
holds false h = absurd h

so : (b : Bool) → b ≡ true → T b
so b e = subst T (sym e) tt

each_runs : (set : Setup) (plan : Plan) (n : ℕ) (ps : List Posted) → all_run set plan n ps ≡ true → (k : ℕ) → k ≤ n → KernelRun set plan k ps
each_runs set plan zero ps h zero le = so _ h
each_runs set plan zero ps h (suc k) le = absurd (omega arith)
each_runs set plan (suc n) ps h k le = go (leb k n) refl (λ rest lower. each_runs set plan n ps rest k lower)
  where
    parts : (is_some (kernel_run set plan (suc n) ps) ≡ true) × (all_run set plan n ps ≡ true)
    parts = both (is_some (kernel_run set plan (suc n) ps)) (all_run set plan n ps) h

    go : (b : Bool) → leb k n ≡ b → (all_run set plan n ps ≡ true → k ≤ n → KernelRun set plan k ps) → KernelRun set plan k ps
    go true e lower = lower parts.1 (leb-true k n e)
    go false e lower = let more = leb-false k n e in let last : suc n ≡ k = omega (arith, more, le) in subst (λ j. KernelRun set plan j ps) last (so _ parts.0)

all_runs : (set : Setup) (plan : Plan) (n : ℕ) (ps : List Posted) → ((k : ℕ) → k ≤ n → KernelRun set plan k ps) → all_run set plan n ps ≡ true
all_runs set plan zero ps each = holds _ (each 0 (omega arith))
all_runs set plan (suc n) ps each = ap (λ b. b && all_run set plan n ps) (holds _ (each (suc n) (omega arith))) ∙ all_runs set plan n ps (λ k le. each k (omega (arith, le)))

-- ---- the whole

over_is : (es : List Entry) → is_over es ≡ true → es ≡ []
over_is [] e = refl
over_is (x ∷ xs) e = absurd (true≢false (sym e))

start_of : Walk → Ran
start_of w = record { walk = w; definitions = empty; lines = [] }

composed : (set : Setup) (plan : Plan) (cells : List Reading) (journal : List Entry) → Legal set plan cells journal → Composed set plan cells journal
composed set plan cells journal h = go (whole_run set cells journal) refl h
  where
    go : (o : Course Walk) → whole_run set cells journal ≡ o → T (kernels_run set plan (given (arrived o) (λ w. Some w.posted))) → Composed set plan cells journal
    go (Goes w) is h' =
        let s = gone (run_along set cells journal (length cells)) (λ ran. closes set ran.walk) w is in
        let l = gone (first_losses set (first_walk set journal) journal) (λ v. run_cells set 1 (take (length cells) cells) (record { walk = v; definitions = empty; lines = [] })) s.0 s.1 in
        let u = gone (master_posts set Event.Close Handed.Nothing (s.0).walk) (λ v. or_differs (is_over v.rest) (Goes v)) w s.2 in
        let v = goes_so (is_over (u.0).rest) (Goes (u.0)) w u.2 in
        record {
          begun = l.0;
          losses = l.1;
          ran = s.0;
          runs = ap (λ cs. run_cells set 1 cs (record { walk = l.0; definitions = empty; lines = [] })) (sym (all_taken cells)) ∙ l.2;
          ended = u.0;
          close = u.1;
          over = over_is (u.0).rest v.0;
          kernels = λ k le. each_runs set plan set.kernels (u.0).posted (ap (λ x. all_run set plan set.kernels x.posted) (goes_is v.1) ∙ holds _ h') k le;
        }
    go (UsedUp w) is h' = absurd h'
    go Differs is h' = absurd h'

is_legal : (set : Setup) (plan : Plan) (cells : List Reading) (journal : List Entry) → Composed set plan cells journal → Legal set plan cells journal
is_legal set plan cells journal c =
    so (legal set plan cells journal) (ap (λ o. kernels_run set plan (given (arrived o) (λ w. Some w.posted))) goes ∙ all_runs set plan set.kernels c.ended.posted c.kernels)
  where
    ran : run_along set cells journal (length cells) ≡ Goes c.ran
    ran =
        ap (λ o. going o (λ w. run_cells set 1 (take (length cells) cells) (record { walk = w; definitions = empty; lines = [] }))) c.losses
        ∙ (ap (λ cs. run_cells set 1 cs (record { walk = c.begun; definitions = empty; lines = [] })) (all_taken cells) ∙ c.runs)

    goes : whole_run set cells journal ≡ Goes c.ended
    goes =
        ap (λ o. going o (λ r. closes set r.walk)) ran
        ∙ (ap (λ o. going o (λ v. or_differs (is_over v.rest) (Goes v))) c.close ∙ ap (λ es. or_differs (is_over es) (Goes c.ended)) c.over)

pub legal_composed : LegalComposed
legal_composed set plan cells journal = (composed set plan cells journal, is_legal set plan cells journal)

pub legal_started : LegalStarted
legal_started set plan cells journal h = go (whole_run set cells journal) h
  where
    go : (o : Course Walk) → T (kernels_run set plan (given (arrived o) (λ w. Some w.posted))) → T (kernels_run set plan (used_by o))
    go (Goes w) h' = h'
    go (UsedUp w) h' = absurd h'
    go Differs h' = absurd h'

-- ---- cells

one_after : {A B C : Type 0} (o : Course A) (k : A → Course B) (m : B → Course C) → going (going o k) m ≡ going o (λ a. going (k a) m)
one_after (Goes a) k m = refl
one_after (UsedUp w) k m = refl
one_after Differs k m = refl

same_after : {A B : Type 0} (o : Course A) (k m : A → Course B) → ((a : A) → k a ≡ m a) → going o k ≡ going o m
same_after (Goes a) k m same = same a
same_after (UsedUp w) k m same = refl
same_after Differs k m same = refl

pub cells_join : CellsJoin
cells_join set n [] more ran = ap (λ k. run_cells set k more ran) (omega arith)
cells_join set n (c ∷ cs) more ran =
    same_after (run_cell set n c ran) (λ r. run_cells set (suc n) (cs ++ more) r) (λ r. going (run_cells set (suc n) cs r) (λ x. run_cells set (n + suc (length cs)) more x))
    (λ r. cells_join set (suc n) cs more r ∙ ap (λ k. going (run_cells set (suc n) cs r) (λ x. run_cells set k more x)) (omega arith))
    ∙ sym (one_after (run_cell set n c ran) (λ r. run_cells set (suc n) cs r) (λ x. run_cells set (n + suc (length cs)) more x))
