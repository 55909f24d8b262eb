-- Steps of the outside as a list of events.
use Rattle.std.proofs.Common.{◌≡◌, ◌∙◌, List, [], ◌∷◌, ◌++◌, append_assoc, append-nil, Ok, Err, refl, sym, ap, subst}
use Rattle.expr_tree.specs.Tree.{Tree}
use Rattle.semantics.specs.Definitions.{Definitions}
use Rattle.semantics.specs.Play.{Setting, State, End, Value, Stopped, Throwing, Thrown, Quit, Closed, Play, Over, Calls, whole}
use Rattle.semantics.specs.Eval.{Event, Evaluation, Wrong, over, if_matched, eval}
use Rattle.semantics.proofs.Same.{same_call-self}
use Rattle.evaluation_steps.specs.Leads.{Step, Leads, here, called}
use Rattle.evaluation_steps.specs.Explain.{Explain, EndsAs, Explained}
use Rattle.evaluation_steps.specs.declared.Exit.{Exit}

-- the list of the events that lead from t to u; the evaluation over it is at u
pub elements : {S : Type 0} {step : Step S} {s z : S} {t u : Play} (evaluation : List Event → Evaluation) (before : List Event) →
    ((X : List Event) → evaluation (before ++ X) ≡ over t X) → Leads step s t u z →
    (O : List Event) × Explain step evaluation s before O z × ((X : List Event) → evaluation (before ++ (O ++ X)) ≡ over u X)
elements evaluation before h here = ([], refl, h)
elements {step = step} {s = s} evaluation before h (called {m = m} {c = c} {st = st} {k = k} {r = r} {d = d} one l) =
    let e : Event = record { call = c; reply = r; after = d } in
    let on : (X : List Event) → evaluation ((before ++ e ∷ []) ++ X) ≡ over (k r d) X =
    λ X. ap evaluation (append_assoc before (e ∷ []) X) ∙ (h (e ∷ X) ∙ ap (λ b. if_matched b st e X (over (k r d) X)) (same_call-self c)) in
    let x = elements evaluation (before ++ e ∷ []) on l in
    let at : st.definitions ≡ (evaluation before).definitions = sym (ap (λ v. v.definitions) (ap evaluation (sym (append-nil before)) ∙ h [])) in
    (e ∷ x.0, (m, ap (λ v. v.outcome) (ap evaluation (sym (append-nil before)) ∙ h []), subst (λ y. step s y c r d m) at one, x.1), λ X. ap evaluation (sym (append_assoc before (e ∷ []) (x.0 ++ X))) ∙ x.2 X)

ends_as : {v : Evaluation} {o : End} {st : State} → v ≡ over (Over o st) [] → EndsAs v o st
ends_as e =
    record {
      outcome = ap (λ v. v.outcome) e;
      definitions = ap (λ v. v.definitions) e;
      steps = ap (λ v. v.steps) e;
      used = ap (λ v. v.used) e;
      rest = ap (λ v. v.rest) e;
    }

not_wrong : (u : Play) → (over u []).outcome ≡ Wrong → ⊥
not_wrong (Over o st) e = cc
not_wrong (Calls c st k) e = cc

module _ {S : Type 0} {step : Step S} (set : Setting) (d : Definitions) (e : Tree) {s z : S} where
  -- the list, and where the evaluation over it stands
  listed_to : (u : Play) → Leads step s (whole set d e) u z → (O : List Event) × Explain step (eval set d e) s [] O z × (eval set d e O ≡ over u [])
  unfolding eval
  listed_to u l =
      let x = elements (eval set d e) [] (λ X. refl) l in
      (x.0, x.1, ap (eval set d e) (sym (append-nil x.0)) ∙ x.2 [])

pub explained : {S : Type 0} (step : Step S) → Explained step
explained step set d e s z (Ok v) st a = let x = listed_to set d e (Over (Value v) st) a.went.by in (x.0, x.1, ends_as x.2)
explained step set d e s z (Err (Exit.Stopped c)) st a = let x = listed_to set d e (Over (Stopped c) st) a.went.by in (x.0, x.1, ends_as x.2)
explained step set d e s z (Err (Exit.Throwing v)) st a = let x = listed_to set d e (Over (Throwing v) st) a.went.by in (x.0, x.1, ends_as x.2)
explained step set d e s z (Err (Exit.Thrown v)) st a = let x = listed_to set d e (Over (Thrown v) st) a.went.by in (x.0, x.1, ends_as x.2)
explained step set d e s z (Err Exit.Quit) st a = let x = listed_to set d e (Over Quit st) a.went.by in (x.0, x.1, ends_as x.2)
explained step set d e s z (Err Exit.Closed) st a = let x = listed_to set d e (Over Closed st) a.went.by in (x.0, x.1, ends_as x.2)
explained step set d e s z (Err Exit.NoMemory) st a =
    let x = listed_to set d e a.went.by.0 a.went.by.1 in (x.0, x.1, λ q. not_wrong a.went.by.0 (sym (ap (λ v. v.outcome) x.2) ∙ q))
