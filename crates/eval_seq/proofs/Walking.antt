-- How the parts of an evaluation follow one another, as the functions of the evaluator go through them.
use Rattle.std.proofs.Common.{◌≡◌, ℕ, zero, suc, ◌-◌, ◌<◌, sub-one, Option, Result, Ok, Err, refl, arith}
use Rattle.std.specs.Result.{IsErrAnd}
use Rattle.expr_tree.specs.Tree.{Tree}
use Rattle.semantics.specs.Program.{Prog, Ask}
use Rattle.semantics.specs.Pass.{pass}
use Rattle.semantics.specs.Play.{Setting, State, run, eval_at}
use Rattle.evaluation_steps.specs.declared.Exit.{Exit}
use Rattle.evaluation_steps.specs.declared.Halt.{Halt}
use Rattle.evaluation_steps.specs.Leads.{Step, here}
use Rattle.evaluation_steps.specs.Words.{Evaluated, Settled, Reached, Ran, Led}
use Rattle.evaluation_steps.proofs.Laws.{went_on, went_out, went_after, reached_played, played_memory, throws_nothing, settled_pass_out, settled_large}
use Rattle.eval_seq.specs.Walks.{or_itself, PassOf, valued, ended, large}

module _ {S : Type 0} {step : Step S} {set : Setting} {n : ℕ} where
  -- ---- errors that are passed on

  pub evaluates_err : {e : Tree} {x : Exit} {r : Result Tree Exit} {s z : S} {st st' : State} → IsErrAnd r (λ y. y ≡ x) → Evaluated step set n e s st (Err x) st' z → Evaluated step set n e s st r st' z
  evaluates_err {r = Ok v} i a = absurd i
  evaluates_err {r = Err y} i a = rw i a

  pub runs_err : {A : Type 0} {p : (A → Prog) → Prog} {x : Exit} {r : Result A Exit} {s z : S} {st st' : State} → IsErrAnd r (λ y. y ≡ x) → Ran step set n p s st (Err x) st' z → Ran step set n p s st r st' z
  runs_err {r = Ok v} i a = absurd i
  runs_err {r = Err y} i a = rw i a

  pub runs_err_or : {A : Type 0} {p : (A → Prog) → Prog} (old : A) {x : Exit} (r : Result (Option A) Exit) {s z : S} {st st' : State} → IsErrAnd r (λ y. y ≡ x) → Ran step set n p s st (Err x) st' z → Ran step set n p s st (or_itself old r) st' z
  runs_err_or old (Ok v) i a = absurd i
  runs_err_or old (Err y) i a = rw i a

  pub pass_err : {p : Prog} {x : Exit} {r : Result Tree Exit} {s z : S} {st st' : State} → IsErrAnd r (λ y. y ≡ x) → PassOf step set n p s st (Err x) st' z → PassOf step set n p s st r st' z
  pass_err {r = Ok v} i a = absurd i
  pass_err {r = Err y} i a = rw i a

  pub settles_err : {m : ℕ} {e : Tree} {x : Exit} {r : Result Tree Exit} {s z : S} {st st' : State} → IsErrAnd r (λ y. y ≡ x) → Settled step set n m e s st (Err x) st' z → Settled step set n m e s st r st' z
  settles_err {r = Ok v} i a = absurd i
  settles_err {r = Err y} i a = rw i a

  -- ---- parts of programs

  pub runs_led : {A : Type 0} {p q : (A → Prog) → Prog} {s m z : S} {st st' st'' : State} {r : Result A Exit} →
      Led step set n p s st q st' m → Ran step set n q m st' r st'' z → Ran step set n p s st r st'' z
  runs_led a b = record { went = λ k. went_on (a.on k).on (b.went k) }

  pub runs_ask : {e : Tree} {r : Result Tree Exit} {s z : S} {st st' : State} → Evaluated step set n e s st r st' z → Ran step set n (Ask e) s st r st' z
  runs_ask a = record { went = λ k. went_after (λ x y. run set (eval_at set n) (k x) y) a.went }

  pub runs_ask_out : {A : Type 0} {e : Tree} {q : Tree → (A → Prog) → Prog} {x : Exit} {s z : S} {st st' : State} →
      Evaluated step set n e s st (Err x) st' z → Ran step set n (λ k. Ask e (λ v. q v k)) s st (Err x) st' z
  runs_ask_out {q = q} a = record { went = λ k. went_out (went_after (λ v y. run set (eval_at set n) (q v k) y) a.went) }

  pub runs_then_out : {A B : Type 0} {p : (A → Prog) → Prog} {q : A → (B → Prog) → Prog} {s z : S} {st st' : State} {x : Exit} →
      Ran step set n p s st (Err x) st' z → Ran step set n (λ k. p (λ v. q v k)) s st (Err x) st' z
  runs_then_out {q = q} a = record { went = λ k. went_out (a.went (λ v. q v k)) }

  pub runs_memory : {A : Type 0} {p : (A → Prog) → Prog} {s : S} {st st' : State} → Ran step set n p s st (Err Exit.NoMemory) st' s
  runs_memory = record { went = λ k. record { by = (_, here) } }

  pub runs_lost : {A : Type 0} {p : (A → Prog) → Prog} {r : Result A Exit} {s : S} {st st' : State} → IsErrAnd r (λ y. y ≡ Exit.NoMemory) → Ran step set n p s st r st' s
  runs_lost i = runs_err i runs_memory

  -- ---- passes

  pub pass_on : {p q : Prog} {r : Result Tree Exit} {s m z : S} {st st' st'' : State} → Reached step set n p s st q st' m → PassOf step set n q m st' r st'' z → PassOf step set n p s st r st'' z
  pass_on l (valued a) = valued (reached_played l a)
  pass_on l (ended a) = ended (reached_played l a)
  pass_on l (large a f) = large (reached_played l a) f

  pub pass_part_out : {A : Type 0} {p : (A → Prog) → Prog} (k : A → Prog) {x : Exit} {s z : S} {st st' : State} → Ran step set n p s st (Err x) st' z → PassOf step set n (p k) s st (Err x) st' z
  pass_part_out k a = ended (record { went = went_out (a.went k) })

  pub pass_lost : {p : Prog} {r : Result Tree Exit} {s : S} {st st' : State} → IsErrAnd r (λ y. y ≡ Exit.NoMemory) → PassOf step set n p s st r st' s
  pass_lost i = pass_err i (ended played_memory)

  -- ---- the fixed point

  pub settles_pass_out : (m : ℕ) (e : Tree) {x : Exit} {s z : S} {st st' : State} → throws_nothing {A = Tree} (Err x) → PassOf step set n (pass set.names e) s st (Err x) st' z → Settled step set n m e s st (Err x) st' z
  settles_pass_out m e silent (ended a) = settled_pass_out m e silent a
  settles_pass_out m e silent (large {c = c} a f) = settled_large m e {h = Halt.Stopped c} a (record { by = rw f refl })

pub evaluates_deep : {S : Type 0} {step : Step S} {set : Setting} {e : Tree} {s z : S} {st st' : State} {r : Result Tree Exit} (m : ℕ) → 0 < m →
    Settled step set (m - 1) set.limits.iteration e s st r st' z → Evaluated step set m e s st r st' z
evaluates_deep zero h a = absurd (omega arith)
evaluates_deep {step = step} {set = set} {e = e} {s = s} {z = z} {st = st} {st' = st'} {r = r} (suc m) h a =
    let b : Settled step set m set.limits.iteration e s st r st' z = rw (sub-one) at a in
    record { went = b.went }
