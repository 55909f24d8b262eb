-- Each call of a program that fits may come, wherever an evaluation runs it; so may the calls of the parts of a pass.
use Rattle.std.proofs.Common.{◌≡◌, refl, sym, subst, ℕ, Bool, true, false, true≢false}
use Rattle.semantics.specs.Program.{Prog, Call, Sends, Enter, Leave}
use Rattle.semantics.specs.Play.{Setting, State, End, Reply, Replied, Halted, Shut, Lacking, Play, run, eval_at}
use Rattle.semantics.specs.Opened.{opens}
use Rattle.laws_calls.specs.Calls.{unstopped, Fits, ended, called}
use Rattle.laws_calls.proofs.Programs.{Fit}
use Rattle.laws_calls.proofs.Passes.{pass-fits}
use Rattle.laws_calls.proofs.Runs.{Told, Goes, over, needs, open_in, point, run-goes, eval_at-goes}

-- where nothing is known of the end
pub still_unknown : (c : Call) (r : Reply) → unstopped c r false ≡ false
still_unknown (Sends request) r = refl
still_unknown (Enter locks) r = refl
still_unknown Leave (Replied v) = refl
still_unknown Leave (Halted c) = refl
still_unknown Leave Shut = refl
still_unknown Leave Lacking = refl

module _ (set : Setting) where
  goes_fits : {E : Told → End → Bool → Type 0} {so_far : Told} {now : Bool} {p : Play} → Goes set E so_far now p → Fits set.names set.mode false now p
  goes_fits (over e h) = ended e (λ is. absurd (true≢false (sym is)))
  goes_fits {now = now} (needs {c = c} {k = k} e may f) =
      called e may (λ r d. subst (λ b. Fits set.names set.mode b (opens c r now) (k r d)) (sym (still_unknown c r)) (goes_fits (f r d)))

  pub run_fits : (n : ℕ) (st : State) {p : Prog} → Fit (point set (open_in st)) p → Fits set.names set.mode false (open_in st) (run set (eval_at set n) p st)
  run_fits n st fit = goes_fits (run-goes set (eval_at set n) (eval_at-goes set (λ a e. pass-fits (point set a) e) n) (open_in st) fit st refl (record { unstopped = true; answered = true }))
