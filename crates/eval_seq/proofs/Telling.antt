-- What a whole evaluation says: steps of the outside as a list of events, and as those that lead along its play.
use Rattle.std.proofs.Common.{◌≡◌, ◌∙◌, Bool, List, [], ◌∷◌, ◌++◌, append_assoc, append-nil, Result, Ok, Err, refl, sym, ap, subst}
use Rattle.expr_tree.specs.Tree.{Tree}
use Rattle.name_table.specs.Table.{NameTable}
use Rattle.semantics.specs.Definitions.{Definitions}
use Rattle.semantics.specs.Program.{Call, Mode}
use Rattle.semantics.specs.Play.{Setting, State, End, Value, Stopped, Thrown, Quit, Closed, Reply, Play, Over, Calls, whole, begun}
use Rattle.semantics.specs.Eval.{Event, Evaluation, Wrong, over, if_matched, eval}
use Rattle.semantics.proofs.Same.{same_call-self}
use Rattle.evaluation_steps.specs.Leads.{Step, Leads, here, called}
use Rattle.evaluation_steps.specs.Explain.{Explain, EndsAs}
use Rattle.evaluation_steps.specs.Words.{Evaluated}
use Rattle.evaluation_steps.specs.declared.Exit.{Exit}
use Rattle.eval_seq.specs.Outward.{Guarded}
use Rattle.eval_seq.specs.Told.{outcome_of, kept_use, Came, IsClosed, IsThrowing, Says}

-- the list of the events that lead from t to u; the evaluation over it is at u
events_of : {S : Type 0} {step : Step S} {ready : S → Type 0} {names : S → NameTable} {mode : S → Mode} {is_open : S → Bool} {s z : S} {t u : Play} (evaluation : List Event → Evaluation) (before : List Event) →
    ((X : List Event) → evaluation (before ++ X) ≡ over t X) → Leads (Guarded step ready names mode is_open) s t u z →
    (O : List Event) × Explain step evaluation s before O z × ((X : List Event) → evaluation (before ++ (O ++ X)) ≡ over u X)
events_of evaluation before h here = ([], refl, h)
events_of {step = step} {s = s} evaluation before h (called {m = m} {c = c} {st = st} {k = k} {r = r} {d = d} one l) =
    let e : Event = record { call = c; reply = r; after = d } in
    let on : (X : List Event) → evaluation ((before ++ e ∷ []) ++ X) ≡ over (k r d) X =
    λ X. ap evaluation (append_assoc before (e ∷ []) X) ∙ (h (e ∷ X) ∙ ap (λ b. if_matched b st e X (over (k r d) X)) (same_call-self c)) in
    let x = events_of evaluation (before ++ e ∷ []) on l in
    let at : st.definitions ≡ (evaluation before).definitions = sym (ap (λ v. v.definitions) (ap evaluation (sym (append-nil before)) ∙ h [])) in
    (e ∷ x.0, (m, ap (λ v. v.outcome) (ap evaluation (sym (append-nil before)) ∙ h []), subst (λ y. step s y c r d m) at one.made, x.1), λ X. ap evaluation (sym (append_assoc before (e ∷ []) (x.0 ++ X))) ∙ x.2 X)

listed_to : {S : Type 0} {step : Step S} {ready : S → Type 0} {names : S → NameTable} {mode : S → Mode} {is_open : S → Bool} (set : Setting) (d : Definitions) (e : Tree) {s z : S} (u : Play) → Leads (Guarded step ready names mode is_open) s (whole set d e) u z →
    (O : List Event) × Explain step (eval set d e) s [] O z × ((X : List Event) → eval set d e (O ++ X) ≡ over u X)
unfolding eval
listed_to set d e u l = events_of (eval set d e) [] (λ X. refl) l

at_end : (f : List Event → Evaluation) (events : List Event) (u : Play) → ((X : List Event) → f (events ++ X) ≡ over u X) → f events ≡ over u []
at_end f events u h = ap f (sym (append-nil events)) ∙ h []

ends_as : {v : Evaluation} {o : End} {st : State} → v ≡ over (Over o st) [] → EndsAs v o st
ends_as e =
    record {
      outcome = ap (λ v. v.outcome) e;
      definitions = ap (λ v. v.definitions) e;
      steps = ap (λ v. v.steps) e;
      used = ap (λ v. v.used) e;
      rest = ap (λ v. v.rest) e;
    }

not_wrong : (u : Play) → (over u []).outcome ≡ Wrong → ⊥
not_wrong (Over o st) e = cc
not_wrong (Calls c st k) e = cc

module _ {S : Type 0} {step : S → Definitions → Call → Reply → Definitions → S → Type 0} {ready : S → Type 0} {names : S → NameTable} {mode : S → Mode} {is_open : S → Bool} where
  pub told : (set : Setting) (d : Definitions) (e : Tree) {s z : S} (r : Result Tree Exit) (st : State) → (IsThrowing r → ⊥) →
      Evaluated (Guarded step ready names mode is_open) set set.limits.recursion e s (begun d) r st z →
      (events : List Event) × Explain step (eval set d e) s [] events z × Says (eval set d e events) (outcome_of r) (kept_use (outcome_of r) st)
  told set d e (Ok v) st calm a = let x = listed_to set d e (Over (Value v) st) a.went.by in (x.0, x.1, ends_as (at_end (eval set d e) x.0 (Over (Value v) st) x.2))
  told set d e (Err (Exit.Stopped c)) st calm a = let x = listed_to set d e (Over (Stopped c) st) a.went.by in (x.0, x.1, ends_as (at_end (eval set d e) x.0 (Over (Stopped c) st) x.2))
  told set d e (Err (Exit.Throwing v)) st calm a = absurd (calm tt)
  told set d e (Err (Exit.Thrown v)) st calm a = let x = listed_to set d e (Over (Thrown v) st) a.went.by in (x.0, x.1, ends_as (at_end (eval set d e) x.0 (Over (Thrown v) st) x.2))
  told set d e (Err Exit.Quit) st calm a = let x = listed_to set d e (Over Quit st) a.went.by in (x.0, x.1, ends_as (at_end (eval set d e) x.0 (Over Quit st) x.2))
  told set d e (Err Exit.Closed) st calm a = let x = listed_to set d e (Over Closed st) a.went.by in (x.0, x.1, ends_as (at_end (eval set d e) x.0 (Over Closed st) x.2))
  told set d e (Err Exit.NoMemory) st calm a =
      let x = listed_to set d e a.went.by.0 a.went.by.1 in
      (x.0, x.1, ((λ q. not_wrong a.went.by.0 (sym (ap (λ v. v.outcome) (at_end (eval set d e) x.0 a.went.by.0 x.2)) ∙ q)), refl))

  leads_made : {s z : S} {t u : Play} → Leads (Guarded step ready names mode is_open) s t u z → Leads step s t u z
  leads_made here = here
  leads_made (called g l) = called g.made (leads_made l)

  pub came : (set : Setting) (d : Definitions) (e : Tree) {s z : S} (r : Result Tree Exit) (st : State) → (IsThrowing r → ⊥) →
      Evaluated (Guarded step ready names mode is_open) set set.limits.recursion e s (begun d) r st z → Came step s (whole set d e) (outcome_of r) (kept_use (outcome_of r) st) z
  came set d e (Ok v) st calm a = leads_made a.went.by
  came set d e (Err (Exit.Stopped c)) st calm a = leads_made a.went.by
  came set d e (Err (Exit.Throwing v)) st calm a = absurd (calm tt)
  came set d e (Err (Exit.Thrown v)) st calm a = leads_made a.went.by
  came set d e (Err Exit.Quit) st calm a = leads_made a.went.by
  came set d e (Err Exit.Closed) st calm a = leads_made a.went.by
  came set d e (Err Exit.NoMemory) st calm a = (a.went.by.0, leads_made a.went.by.1)

-- whether mode and kernel mattered is all that want of memory changes
pub kept_closed : (r : Result Tree Exit) (st : State) (now : Bool) → IsClosed (outcome_of r) st now → IsClosed (outcome_of r) (kept_use (outcome_of r) st) now
kept_closed (Ok v) st now h = h
kept_closed (Err (Exit.Stopped c)) st now h = h
kept_closed (Err (Exit.Throwing v)) st now h = tt
kept_closed (Err (Exit.Thrown v)) st now h = h
kept_closed (Err Exit.Quit) st now h = h
kept_closed (Err Exit.Closed) st now h = tt
kept_closed (Err Exit.NoMemory) st now h = tt
