-- How a machine is performed: its steps, and what came of what it asked, lead to what is left of its program.
use Rattle.std.proofs.Common.{◌≡◌, ℕ, Bool, true, List, Option, Some, None, Result, Ok, Err, inl, inr, subst, refl, ◌∙◌}
use Rattle.std.specs.Result.{IsErrAnd}
use Rattle.expr_tree.specs.declared.sym.Sym.{Sym}
use Rattle.expr_tree.specs.Tree.{Tree}
use Rattle.semantics.specs.Definitions.{Definitions}
use Rattle.semantics.specs.Program.{Prog, Done, Ask, Catches, Within, Section, Local, Sends}
use Rattle.semantics.specs.Play.{Setting, State, run, eval_at, put_locals, put_back, with_definitions, with_locals, without_locals}
use Rattle.evaluation_steps.specs.declared.Exit.{Exit}
use Rattle.evaluation_steps.specs.declared.Halt.{Halt}
use Rattle.evaluation_steps.specs.Leads.{Step, Leads, here, exit_of}
use Rattle.evaluation_steps.specs.Moves.{turning}
use Rattle.evaluation_steps.specs.Words.{Evaluated, Reached, Ran, Called, Counted}
use Rattle.evaluation_steps.proofs.Laws as laws
use Rattle.evaluation_steps.proofs.Laws.{reached_here, reached_on, reached_turn, reached_part, played_turn_out, played_done, played_memory, played_throws, played_leaves, went_out, went_locals, ran_catch, ran_outer}
use Rattle.evaluation_steps.proofs.Moving.{reached_counted, played_counted_out}
use Rattle.frames_scope.specs.Reading.{locals_in}
use Rattle.machine_steps.specs.Steps as f
use Rattle.machine_steps.specs.Steps.{headed, state_at, EndsBy, Falls}
use Rattle.machine_steps.specs.Outward.{request_of}
use Rattle.machine_steps.specs.declared.moves.Move.{Move}
use Rattle.machine_steps.specs.declared.outward.Request.{Request}
use Rattle.eval_seq.specs.Ends.{caught}
use Rattle.frames_scope.specs.declared.locals.Local as l
use Rattle.eval_seq.specs.declared.machine.Start.{Start}
use Rattle.eval_seq.specs.declared.machine.Followed.{Followed}
use Rattle.eval_seq.specs.Walks.{PassOf, valued, ended, large, Stepped}
use Rattle.eval_seq.specs.Driven.{driven, Begins, Opens, OpensFrom, Follows}
use Rattle.eval_seq.proofs.Walking.{pass_on, pass_part_out, runs_led}

same_caught : (r : Result Tree Exit) → laws.caught r ≡ caught r
same_caught (Ok v) = refl
same_caught (Err (Exit.Stopped c)) = refl
same_caught (Err (Exit.Throwing v)) = refl
same_caught (Err (Exit.Thrown v)) = refl
same_caught (Err Exit.Quit) = refl
same_caught (Err Exit.Closed) = refl
same_caught (Err Exit.NoMemory) = refl

module _ {S : Type 0} {step : Step S} {set : Setting} {n : ℕ} where
  -- ---- beginnings

  pub begins_on : {p : Prog → Prog} {start : Start} {r : Result (Option Tree) Exit} {s m z : S} {st st' st'' : State} → Begins step set n p s st (Ok start) st' m →
      Stepped step set n (driven set.names start) m st' r st'' z → Stepped step set n p s st r st'' z
  begins_on {r = Ok None} a b = record { by = λ rest. reached_on (a.by rest) (b.by rest) }
  begins_on {r = Ok (Some v)} a b = record { by = λ rest. pass_on (a.by rest) (b.by rest) }
  begins_on {r = Err x} a b = record { by = λ rest. pass_on (a.by rest) (b.by rest) }

  pub begins_from : {p q : Prog → Prog} {r : Result Start Exit} {s m z : S} {st st' st'' : State} → ((rest : Prog) → Reached step set n (p rest) s st (q rest) st' m) →
      Begins step set n q m st' r st'' z → Begins step set n p s st r st'' z
  begins_from {r = Ok start} l a = record { by = λ rest. reached_on (l rest) (a.by rest) }
  begins_from {r = Err x} l a = record { by = record { by = λ rest. pass_on (l rest) (a.by.by rest) } }

  pub begins_err : {p : Prog → Prog} {x : Exit} {r : Result Start Exit} {s z : S} {st st' : State} → IsErrAnd r (λ y. y ≡ x) → Begins step set n p s st (Err x) st' z → Begins step set n p s st r st' z
  begins_err {r = Ok v} i a = absurd i
  begins_err {r = Err y} i a = rw i a

  pub begins_lost : {p : Prog → Prog} {r : Result Start Exit} {s : S} {st st' : State} → IsErrAnd r (λ y. y ≡ Exit.NoMemory) → Begins step set n p s st r st' s
  begins_lost i = begins_err i (record { by = record { by = λ rest. ended played_memory } })

  reached_is : {p q : Prog} {s : S} {st : State} → p ≡ q → Reached step set n p s st q st s
  reached_is e = rw e reached_here

  -- it has no result
  pub begins_none : {p : Prog → Prog} {s : S} {st : State} → ((rest : Prog) → p rest ≡ rest) → Begins step set n p s st (Ok (Start.Given None)) st s
  begins_none e = record { by = λ rest. reached_is (e rest) }

  reached_value : {p : Prog} {v : Tree} {s z : S} {st st' : State} → PassOf step set n p s st (Ok v) st' z → Reached step set n p s st (Done v) st' z
  reached_value (valued a) = record { on = a.went.by }

  -- a program that is over gives the result, or none
  pub begins_value : {p o : Prog → Prog} (v : Option Tree) {s m z : S} {st st' st'' : State} → ((rest : Prog) → Reached step set n (p rest) s st (o rest) st' m) → Stepped step set n o m st' (Ok v) st'' z →
      Begins step set n p s st (Ok (Start.Given v)) st'' z
  begins_value None l a = record { by = λ rest. reached_on (l rest) (a.by rest) }
  begins_value (Some v) l a = record { by = λ rest. reached_on (l rest) (reached_value (a.by rest)) }

  pub begins_out : {p o : Prog → Prog} {x : Exit} {s m z : S} {st st' st'' : State} → ((rest : Prog) → Reached step set n (p rest) s st (o rest) st' m) → Stepped step set n o m st' (Err x) st'' z →
      Begins step set n p s st (Err x) st'' z
  begins_out l a = record { by = record { by = λ rest. pass_on (l rest) (a.by rest) } }

  pub begins_opens : {p : Prog → Prog} {r : Result Start Exit} {s : S} {st : State} → Opens set p r → Begins step set n p s st r st s
  begins_opens {r = Ok start} a = record { by = λ rest. reached_is (a.by rest) }
  begins_opens {p = p} {r = Err (Exit.Stopped c)} {s = s} {st = st} a = elim a.by [
    | inl f ↦ record { by = record { by = λ rest. ended (record { went = rw (f rest) (record { by = here }) }) } }
    | inr f ↦ record { by = record { by = λ rest. large (record { went = rw (f.1 rest) (record { by = here }) }) f.2 } }
  ]
  begins_opens {r = Err (Exit.Throwing v)} a = absurd a.by
  begins_opens {r = Err (Exit.Thrown v)} a = absurd a.by
  begins_opens {r = Err Exit.Quit} a = absurd a.by
  begins_opens {r = Err Exit.Closed} a = absurd a.by
  begins_opens {r = Err Exit.NoMemory} a = record { by = record { by = λ rest. ended played_memory } }

  pub begins_opens_from : {p : Prog → Prog} {r : Result Start Exit} {s : S} {st st' : State} → OpensFrom set p st r st' → Begins step set n p s st r st' s
  begins_opens_from {p = p} {r = Ok start} {s = s} {st = st} a =
      record { by = λ rest. record { on = subst (λ t. Leads step s (run set (eval_at set n) (p rest) st) t s) (a.by (eval_at set n) rest) here } }
  begins_opens_from {r = Err (Exit.Stopped c)} a = absurd a.by
  begins_opens_from {r = Err (Exit.Throwing v)} a = absurd a.by
  begins_opens_from {r = Err (Exit.Thrown v)} a = absurd a.by
  begins_opens_from {r = Err Exit.Quit} a = absurd a.by
  begins_opens_from {r = Err Exit.Closed} a = absurd a.by
  begins_opens_from {r = Err Exit.NoMemory} a = record { by = record { by = λ rest. ended played_memory } }

  -- ---- questions

  pub runs_turning : {t : Bool} {p : (Tree → Prog) → Prog} {u : Unit {0}} {j : ℕ} {r : Result Tree Exit} {s z : S} {st st' : State} → Counted t set.limits.steps st.steps (Ok u) j →
      Ran step set n p s (record st { steps = j }) r st' z → Ran step set n (λ k. turning t (p k)) s st r st' z
  runs_turning {t = t} c a = runs_led (record { on = λ k. reached_counted {b = t} c }) a

  pub runs_turning_out : {t : Bool} (p : (Tree → Prog) → Prog) {h : Halt} {j : ℕ} {s : S} {st : State} → Counted t set.limits.steps st.steps (Err h) j →
      Ran step set n (λ k. turning t (p k)) s st (Err (exit_of h)) (record st { steps = j }) s
  runs_turning_out {t = t} p c = record { went = λ k. went_out (played_counted_out {set = set} {n = n} {b = t} (p k) c).went }

  pub runs_within : {ls : List Local} {e : Tree} {r : Result Tree Exit} {s z : S} {st st' : State} → Evaluated step set n e s (with_locals set.names ls st) r st' z →
      Ran step set n (Within ls e) s st r (without_locals set.names st.definitions ls st') z
  runs_within {ls = ls} {st = st} a = record { went = λ k. went_locals set st.definitions ls (λ x y. run set (eval_at set n) (k x) y) a.went }

  -- locals that were put by and put back
  pub runs_put_back : {ls : List Local} {e : Tree} {r : Result Tree Exit} {given back : Definitions} {s z : S} {st st' : State} → given ≡ put_locals set.names ls st.definitions → back ≡ put_back set.names st.definitions ls st'.definitions →
      Evaluated step set n e s (with_definitions given st) r st' z → Ran step set n (Within ls e) s st r (with_definitions back st') z
  runs_put_back {e = e} {r = r} {s = s} {z = z} {st = st} {st' = st'} f g a = rw g (runs_within (subst (λ d. Evaluated step set n e s (with_definitions d st) r st' z) f a))

  -- ---- moves

  pub follows_asked : {e v : Tree} {t : Bool} {s z : S} {st st' : State} → Ran step set n (λ k. turning t (Ask e k)) s st (Ok v) st' z → Follows step set n (Move.Ask e t) s st (Ok (Followed.Goes (Some v))) st' z
  follows_asked {v = v} a = record { by = λ stay rest. reached_part (λ x. rest (Some x)) a; fewer = λ before after falls. falls (Some v) }

  pub follows_asked_out : {e : Tree} {t : Bool} {x : Exit} {s z : S} {st st' : State} → Ran step set n (λ k. turning t (Ask e k)) s st (Err x) st' z → Follows step set n (Move.Ask e t) s st (Err x) st' z
  follows_asked_out a = record { by = λ stay rest. pass_part_out (λ x. rest (Some x)) a; fewer = λ before after falls. tt }

  pub follows_within : {ls : List l.Local} {e v : Tree} {t : Bool} {s z : S} {st st' : State} → Ran step set n (λ k. turning t (Within (locals_in ls) e k)) s st (Ok v) st' z →
      Follows step set n (Move.Within ls e t) s st (Ok (Followed.Goes (Some v))) st' z
  follows_within {v = v} a = record { by = λ stay rest. reached_part (λ x. rest (Some x)) a; fewer = λ before after falls. falls (Some v) }

  pub follows_within_out : {ls : List l.Local} {e : Tree} {t : Bool} {x : Exit} {s z : S} {st st' : State} → Ran step set n (λ k. turning t (Within (locals_in ls) e k)) s st (Err x) st' z →
      Follows step set n (Move.Within ls e t) s st (Err x) st' z
  follows_within_out a = record { by = λ stay rest. pass_part_out (λ x. rest (Some x)) a; fewer = λ before after falls. tt }

  pub follows_catch : {e v : Tree} {r : Result Tree Exit} {s z : S} {st st' : State} → caught r ≡ Ok v → Evaluated step set n e s st r st' z → Follows step set n (Move.Catch e) s st (Ok (Followed.Goes (Some v))) st' z
  follows_catch {e = e} {v = v} {r = r} {s = s} {z = z} {st = st} {st' = st'} is a =
      record { by = λ stay rest. reached_part (λ x. rest (Some x)) (subst (λ o. Ran step set n (Catches e) s st o st' z) (same_caught r ∙ is) (ran_catch a)); fewer = λ before after falls. falls (Some v) }

  pub follows_catch_out : {e : Tree} {x : Exit} {r : Result Tree Exit} {s z : S} {st st' : State} → caught r ≡ Err x → Evaluated step set n e s st r st' z → Follows step set n (Move.Catch e) s st (Err x) st' z
  follows_catch_out {e = e} {r = r} {s = s} {z = z} {st = st} {st' = st'} is a =
      record { by = λ stay rest. pass_part_out (λ x. rest (Some x)) (subst (λ o. Ran step set n (Catches e) s st o st' z) (same_caught r ∙ is) (ran_catch a)); fewer = λ before after falls. tt }

  pub follows_section : {locks : List Sym} {e v : Tree} {s z : S} {st st' : State} → Ran step set n (Section locks e) s st (Ok v) st' z → Follows step set n (Move.Section locks e) s st (Ok (Followed.Goes (Some v))) st' z
  follows_section {v = v} a = record { by = λ stay rest. reached_part (λ x. rest (Some x)) a; fewer = λ before after falls. falls (Some v) }

  pub follows_section_out : {locks : List Sym} {e : Tree} {x : Exit} {s z : S} {st st' : State} → Ran step set n (Section locks e) s st (Err x) st' z → Follows step set n (Move.Section locks e) s st (Err x) st' z
  follows_section_out a = record { by = λ stay rest. pass_part_out (λ x. rest (Some x)) a; fewer = λ before after falls. tt }

  pub follows_call : {request : Request} {v : Tree} {s z : S} {st st' : State} → Called step (Sends (request_of request)) s st (Ok v) st' z → Follows step set n (Move.Call request) s st (Ok (Followed.Goes (Some v))) st' z
  follows_call {v = v} a = record { by = λ stay rest. reached_part (λ x. rest (Some x)) (ran_outer a); fewer = λ before after falls. falls (Some v) }

  pub follows_call_out : {request : Request} {x : Exit} {s z : S} {st st' : State} → Called step (Sends (request_of request)) s st (Err x) st' z → Follows step set n (Move.Call request) s st (Err x) st' z
  follows_call_out a = record { by = λ stay rest. pass_part_out (λ x. rest (Some x)) (ran_outer a); fewer = λ before after falls. tt }

  pub follows_throw : {v : Tree} {s : S} {st : State} → Follows step set n (Move.Throw v) s st (Err (Exit.Throwing v)) st s
  follows_throw = record { by = λ stay rest. ended played_throws; fewer = λ before after falls. tt }

  pub follows_quit : {s : S} {st : State} → Follows step set n Move.Quit s st (Err Exit.Quit) st s
  follows_quit = record { by = λ stay rest. ended played_leaves; fewer = λ before after falls. tt }

  pub follows_turn : {u : Unit {0}} {j : ℕ} {s : S} {st : State} → Counted true set.limits.steps st.steps (Ok u) j → Follows step set n Move.Turn s st (Ok (Followed.Goes None)) (record st { steps = j }) s
  follows_turn c = record { by = λ stay rest. reached_turn c; fewer = λ before after falls. falls None }

  pub follows_turn_out : {h : Halt} {j : ℕ} {s : S} {st : State} → Counted true set.limits.steps st.steps (Err h) j → Follows step set n Move.Turn s st (Err (exit_of h)) (record st { steps = j }) s
  follows_turn_out c = record { by = λ stay rest. ended (played_turn_out c); fewer = λ before after falls. tt }

  pub follows_done : {v : Tree} {s : S} {st : State} → Follows step set n (Move.Done v) s st (Ok (Followed.Ends (Some v))) st s
  follows_done = record { by = λ stay rest. valued played_done; fewer = λ before after falls. tt }

  pub follows_stays : {s : S} {st : State} → Follows step set n Move.Stays s st (Ok (Followed.Ends None)) st s
  follows_stays = record { by = λ stay rest. reached_here; fewer = λ before after falls. tt }

  pub follows_err : {m : Move} {x : Exit} {r : Result Followed Exit} {s z : S} {st st' : State} → IsErrAnd r (λ y. y ≡ x) → Follows step set n m s st (Err x) st' z → Follows step set n m s st r st' z
  follows_err {r = Ok v} i a = absurd i
  follows_err {r = Err y} i a = rw i a

  pub driven_given : (o : Option Tree) {s : S} {st : State} → Stepped step set n (driven set.names (Start.Given o)) s st (Ok o) st s
  driven_given None = record { by = λ rest. reached_here }
  driven_given (Some v) = record { by = λ rest. valued played_done }

  -- ---- a machine: l is the program at the beginning, p what is left of it before a step, rest what is left after it

  pub moved : {l p : Prog → Prog} {rest : Prog → Option Tree → Prog} {m : Move} {d d' : Definitions} {u u' : Bool} {i : ℕ} {o : Option (List Sym)} {s z : S} {st : State} →
      ((stay : Prog) → Reached step set n (l stay) s st (p stay) (state_at d u i o) z) → ((stay : Prog) → f.Stepped set (p stay) stay d u (Ok m) (rest stay) d' u') → (stay : Prog) →
      Reached step set n (l stay) s st (headed m stay (rest stay)) (state_at d' u' i o) z
  moved {p = p} {d = d} {u = u} {i = i} {o = o} {z = z} a b stay =
      reached_on (a stay) (record { on = subst (λ t. Leads step z (run set (eval_at set n) (p stay) (state_at d u i o)) t z) ((b stay).by i o (eval_at set n)) here })

  pub driven_goes : {l p : Prog → Prog} {rest : Prog → Option Tree → Prog} {m : Move} {answer : Option Tree} {d d' : Definitions} {u u' : Bool} {i : ℕ} {o : Option (List Sym)} {s q z : S} {st st' : State} →
      ((stay : Prog) → Reached step set n (l stay) s st (p stay) (state_at d u i o) q) → ((stay : Prog) → f.Stepped set (p stay) stay d u (Ok m) (rest stay) d' u') →
      Follows step set n m q (state_at d' u' i o) (Ok (Followed.Goes answer)) st' z → (stay : Prog) → Reached step set n (l stay) s st (rest stay answer) st' z
  driven_goes {rest = rest} a b c stay = reached_on (moved {rest = rest} a b stay) (c.by stay (rest stay))

  pub driven_ends : {l p : Prog → Prog} {rest : Prog → Option Tree → Prog} {m : Move} (v : Option Tree) {d d' : Definitions} {u u' : Bool} {i : ℕ} {o : Option (List Sym)} {s q z : S} {st st' : State} →
      ((stay : Prog) → Reached step set n (l stay) s st (p stay) (state_at d u i o) q) → ((stay : Prog) → f.Stepped set (p stay) stay d u (Ok m) (rest stay) d' u') →
      Follows step set n m q (state_at d' u' i o) (Ok (Followed.Ends v)) st' z → Stepped step set n l s st (Ok v) st' z
  driven_ends {rest = rest} None a b c = record { by = λ stay. reached_on (moved {rest = rest} a b stay) (c.by stay (rest stay)) }
  driven_ends {rest = rest} (Some v) a b c = record { by = λ stay. pass_on (moved {rest = rest} a b stay) (c.by stay (rest stay)) }

  pub driven_out : {l p : Prog → Prog} {rest : Prog → Option Tree → Prog} {m : Move} {x : Exit} {d d' : Definitions} {u u' : Bool} {i : ℕ} {o : Option (List Sym)} {s q z : S} {st st' : State} →
      ((stay : Prog) → Reached step set n (l stay) s st (p stay) (state_at d u i o) q) → ((stay : Prog) → f.Stepped set (p stay) stay d u (Ok m) (rest stay) d' u') →
      Follows step set n m q (state_at d' u' i o) (Err x) st' z → Stepped step set n l s st (Err x) st' z
  driven_out {rest = rest} a b c = record { by = λ stay. pass_on (moved {rest = rest} a b stay) (c.by stay (rest stay)) }

  halts : {p : Prog} (h : Halt) {s : S} {st st' : State} → EndsBy set p st h st' → PassOf step set n p s st (Err (exit_of h)) st' s
  halts {p = p} (Halt.Stopped c) {s = s} {st = st} e = elim e [
    | inl f ↦ ended (record { went = record { by = subst (λ t. Leads step s (run set (eval_at set n) p st) t s) (f (eval_at set n)) here } })
    | inr f ↦ large (record { went = record { by = subst (λ t. Leads step s (run set (eval_at set n) p st) t s) (f.1 (eval_at set n)) here } }) f.2
  ]
  halts Halt.NoMemory e = ended played_memory

  pub driven_halts : {l p : Prog → Prog} {rest : Prog → Option Tree → Prog} {h : Halt} {d d' : Definitions} {u u' : Bool} {i : ℕ} {o : Option (List Sym)} {s q : S} {st : State} →
      ((stay : Prog) → Reached step set n (l stay) s st (p stay) (state_at d u i o) q) → ((stay : Prog) → f.Stepped set (p stay) stay d u (Err h) (rest stay) d' u') →
      Stepped step set n l s st (Err (exit_of h)) (state_at d' u' i o) q
  driven_halts {h = h} {i = i} {o = o} a b = record { by = λ stay. pass_on (a stay) (halts h ((b stay).by i o)) }
