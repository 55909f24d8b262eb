-- Ends of programs that ask nothing.
use Rattle.std.proofs.Common.{◌≡◌, ◌⊎◌, inl, inr, ℕ, suc, ◌+◌, ◌<◌, ◌≤◌, List, [], drop, length, get_or, Some, Result, Ok, Err, sym, subst, arith, drop-cons}
use Rattle.std.proofs.lemmas.Grind.{common_steps}
use Rattle.std.specs.Result.{IsErrAnd}
use Rattle.expr_tree.specs.Tree.{Tree}
use Rattle.expr_tree.specs.declared.limits.Stop.{Stop}
use Rattle.expr_tree.specs.declared.limits.Limits.{Limits}
use Rattle.semantics.specs.Program.{Prog, Done}
use Rattle.semantics.specs.Assemble.{check_all}
use Rattle.semantics.specs.Play.{Setting, State, too_large}
use Rattle.evaluation_steps.specs.declared.Exit.{Exit}
use Rattle.evaluation_steps.specs.declared.Halt.{Halt}
use Rattle.evaluation_steps.specs.Leads.{Step, exit_of}
use Rattle.evaluation_steps.specs.Words.{Fits}
use Rattle.evaluation_steps.specs.Stopping.{HaltsFor}
use Rattle.evaluation_steps.specs.Moves.{Shows, same, fitting, HasStopped, large, passing}
use Rattle.evaluation_steps.proofs.Laws.{reached_played, played_done, played_memory, fits_none, fits_some}
use Rattle.evaluation_steps.proofs.Moving.{reached_shows, played_stops}
use Rattle.eval_seq.specs.Walks as w
use Rattle.eval_seq.specs.Walks.{PassOf}
use Rattle.eval_seq.specs.Sequence.{Answers}

pub shows_on : {limits : Limits} {p q r : Prog} → Shows limits p q → Shows limits q r → Shows limits p r
shows_on same b = b
shows_on (fitting f a) b = fitting f (shows_on a b)

pub shows_stops : {limits : Limits} {p q : Prog} {c : Stop} → Shows limits p q → HasStopped limits q c → HasStopped limits p c
shows_stops same b = b
shows_stops (fitting f a) b = passing f (shows_stops a b)

-- the next of several checks, and the last
pub shows_next : {limits : Limits} (p : Prog) (es : List Tree) (i : ℕ) (e : Tree) {u : Unit {0}} → i < length es → e ≡ get_or es i e → Fits limits e (Ok u)
    → Shows limits (check_all (drop i es) p) (check_all (drop (i + 1) es) p)
shows_next {limits = limits} p es i e within is f =
    let one : i + 1 ≡ suc i = omega arith in
    rw (one, drop-cons es i e within, sym is) (fitting (fits_none (too_large limits e) f.by) same)

pub shows_all : {limits : Limits} (p : Prog) (es : List Tree) (i : ℕ) → length es ≤ i → Shows limits (check_all es p) (check_all (drop i es) p) → Shows limits (check_all es p) p
shows_all {limits = limits} p es i past a = subst (λ xs. Shows limits (check_all es p) (check_all xs p)) (drop_none es i past) a
  where
    drop_none : (es : List Tree) (i : ℕ) → length es ≤ i → drop i es ≡ []
    drop_none es i past = grind (arith, common_steps)

pub answers_check : {limits : Limits} (p : Prog) (es : List Tree) (i : ℕ) (e : Tree) {h : Halt} → i < length es → e ≡ get_or es i e → Shows limits (check_all es p) (check_all (drop i es) p)
    → Fits limits e (Err h) → Answers limits (check_all es p) (Err h)
answers_check {limits = limits} p es i e within is shown f =
    let g = fits_some (too_large limits e) f.by in
    let here : HasStopped limits (check_all (drop i es) p) g.0 = rw (drop-cons es i e within, sym is) (large g.1) in
    rw g.2 (record { by = inl (shows_stops shown here) })

pub answers_err : {limits : Limits} {p : Prog} {h : Halt} {r : Result Tree Halt} → IsErrAnd r (λ x. x ≡ h) → Answers limits p (Err h) → Answers limits p r
answers_err {r = Ok v} i a = absurd i
answers_err {r = Err y} i a = rw i a

pub answers_done : {limits : Limits} {p : Prog} {v : Tree} → Shows limits p (Done v) → Answers limits p (Ok v)
answers_done a = record { by = a }

pub answers_large : {limits : Limits} {p : Prog} {v : Tree} {h : Halt} → Shows limits p (Done v) → HaltsFor limits v h → Answers limits p (Err h)
answers_large {v = v} {h = Halt.Stopped c} a f = record { by = inr (v, a, f.by) }
answers_large {h = Halt.NoMemory} a f = record { by = tt }

pub pass_answers : {S : Type 0} {step : Step S} {set : Setting} {n : ℕ} {p : Prog} {s : S} {st : State} (r : Result Tree Halt) → Answers set.limits p r →
    PassOf step set n p s st (elim r [ Ok v ↦ Ok v | Err h ↦ Err (exit_of h) ]) st s
pass_answers (Ok v) a = w.valued (reached_played (reached_shows a.by) played_done)
pass_answers {step = step} {set = set} {n = n} {p = p} {s = s} {st = st} (Err (Halt.Stopped c)) a = go a.by
  where
    go : HasStopped set.limits p c ⊎ ((v : Tree) × Shows set.limits p (Done v) × (too_large set.limits v ≡ Some c)) → PassOf step set n p s st (Err (Exit.Stopped c)) st s
    go (inl b) = w.ended (played_stops b)
    go (inr b) = w.large (reached_played (reached_shows b.1) played_done) b.2
pass_answers (Err Halt.NoMemory) a = w.ended played_memory

pub ruleset listed_steps = (answers_done, answers_large)
