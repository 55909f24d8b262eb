-- Where the outside knows whether a section is open, the state of the evaluation says the same: so the calls Enter and Leave come where they may.
use Rattle.std.proofs.Common.{◌≡◌, sym, subst, ℕ, Bool, true, Result, Ok, Err}
use Rattle.std.specs.Prelude.{pos}
use Rattle.expr_tree.specs.Tree.{Tree, integer}
use Rattle.semantics.specs.Program.{Prog, Done}
use Rattle.semantics.specs.Play.{Setting, State, End, Play, Over, run, eval_at}
use Rattle.semantics.specs.Opened.{Still, Orderly, ended, called as call_in_order}
use Rattle.semantics.proofs.Opened.{open_in, run-orderly, eval_at-orderly}
use Rattle.expr_tree.specs.declared.limits.Stop.{Stop}
use Rattle.evaluation_steps.specs.declared.Exit.{Exit}
use Rattle.evaluation_steps.specs.Leads.{Step, Leads, here, called}
use Rattle.evaluation_steps.specs.Words.{Evaluated, Ran}
use Rattle.evaluation_steps.specs.Knows.{Knows, Agrees}

at_end : {a now : Bool} {o : End} {st : State} → Orderly a now (Over o st) → open_in st ≡ now
at_end (ended e h) = e

still_at_end : {a now : Bool} {o : End} {st : State} → Orderly a now (Over o st) → Still a o now
still_at_end (ended e h) = h

begins : (set : Setting) (n : ℕ) (e : Tree) (st : State) (now : Bool) → open_in st ≡ now → Orderly (open_in st) now (eval_at set n e st)
begins set n e st now is = subst (λ x. Orderly (open_in st) x (eval_at set n e st)) is (eval_at-orderly set n e st)

begins_inside : (set : Setting) (n : ℕ) (e : Tree) (st : State) (now : Bool) → open_in st ≡ true → now ≡ true → Orderly true now (eval_at set n e st)
begins_inside set n e st now is same = subst (λ x. Orderly true x (eval_at set n e st)) (sym same) (subst (λ x. Orderly x x (eval_at set n e st)) is (eval_at-orderly set n e st))

part_begins : (set : Setting) (n : ℕ) (p : Prog) (st : State) (now : Bool) → open_in st ≡ now → Orderly (open_in st) now (run set (eval_at set n) p st)
part_begins set n p st now is = subst (λ x. Orderly (open_in st) x (run set (eval_at set n) p st)) is (run-orderly set (eval_at set n) (eval_at-orderly set n) p st (open_in st) (λ h. h))

module _ {S : Type 0} {step : Step S} {is_open : S → Bool} (knows : Knows step is_open) where
  pub leads_open : {a : Bool} {s z : S} {t u : Play} → Leads step s t u z → Orderly a (is_open s) t → Orderly a (is_open z) u
  leads_open here h = h
  leads_open {a = a} (called {s = s} {m = m} {c = c} {st = st} {k = k} {r = r} {d = d} one l) (call_in_order e may f) =
      leads_open l (subst (λ x. Orderly a x (k r d)) (sym (knows.by s m st.definitions d c r one)) (f r d))

  -- an expression that was evaluated
  pub evaluated_open : {set : Setting} {n : ℕ} {e : Tree} {s z : S} {st st' : State} {r : Result Tree Exit} → open_in st ≡ is_open s → Evaluated step set n e s st r st' z → Agrees r st' (is_open z)
  evaluated_open {set = set} {n = n} {e = e} {s = s} {st = st} {r = Ok v} is a = record { by = at_end (leads_open a.went.by (begins set n e st (is_open s) is)) }
  evaluated_open {set = set} {n = n} {e = e} {s = s} {st = st} {r = Err (Exit.Stopped c)} is a =
      record { by = at_end (leads_open a.went.by (begins set n e st (is_open s) is)) }
  evaluated_open {set = set} {n = n} {e = e} {s = s} {st = st} {r = Err (Exit.Throwing v)} is a =
      record { by = at_end (leads_open a.went.by (begins set n e st (is_open s) is)) }
  evaluated_open {set = set} {n = n} {e = e} {s = s} {st = st} {r = Err (Exit.Thrown v)} is a =
      record { by = at_end (leads_open a.went.by (begins set n e st (is_open s) is)) }
  evaluated_open {set = set} {n = n} {e = e} {s = s} {st = st} {r = Err Exit.Quit} is a =
      record { by = at_end (leads_open a.went.by (begins set n e st (is_open s) is)) }
  evaluated_open {set = set} {n = n} {e = e} {s = s} {st = st} {r = Err Exit.Closed} is a =
      record { by = at_end (leads_open a.went.by (begins set n e st (is_open s) is)) }
  evaluated_open {r = Err Exit.NoMemory} is a = record { by = tt }

  -- the body of a section that gave a value, stopped or threw is inside it still: Leave may come
  pub body_value_open : {set : Setting} {n : ℕ} {e v : Tree} {s z : S} {st st' : State} → open_in st ≡ true → is_open s ≡ true → Evaluated step set n e s st (Ok v) st' z → is_open z ≡ true
  body_value_open {set = set} {n = n} {e = e} {s = s} {st = st} is now a =
      still_at_end (leads_open {a = true} a.went.by (begins_inside set n e st (is_open s) is now))

  pub body_stop_open : {set : Setting} {n : ℕ} {e : Tree} {c : Stop} {s z : S} {st st' : State} → open_in st ≡ true → is_open s ≡ true → Evaluated step set n e s st (Err (Exit.Stopped c)) st' z → is_open z ≡ true
  body_stop_open {set = set} {n = n} {e = e} {s = s} {st = st} is now a =
      still_at_end (leads_open {a = true} a.went.by (begins_inside set n e st (is_open s) is now))

  pub body_throw_open : {set : Setting} {n : ℕ} {e v : Tree} {s z : S} {st st' : State} → open_in st ≡ true → is_open s ≡ true → Evaluated step set n e s st (Err (Exit.Thrown v)) st' z → is_open z ≡ true
  body_throw_open {set = set} {n = n} {e = e} {s = s} {st = st} is now a =
      still_at_end (leads_open {a = true} a.went.by (begins_inside set n e st (is_open s) is now))

  -- a part of a program that came to its value
  pub ran_open : {A : Type 0} {set : Setting} {n : ℕ} {p : (A → Prog) → Prog} {v : A} {s z : S} {st st' : State} → open_in st ≡ is_open s → Ran step set n p s st (Ok v) st' z → open_in st' ≡ is_open z
  ran_open {set = set} {n = n} {p = p} {s = s} {st = st} is a =
      at_end (leads_open (a.went (λ x. Done (integer (pos 0)))).by (part_begins set n (p (λ x. Done (integer (pos 0)))) st (is_open s) is))
