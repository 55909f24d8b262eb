-- A list of calls with their replies that explains what an evaluation did.
--     Explain       steps of the outside that the list names, each from the definitions that the evaluation has where it needs the call
--     Told          what a result says of the evaluation over the list
--     Explained     the theorem: what came of an evaluation has such a list
use Rattle.std.specs.Prelude.{◌≡◌, List, [], ◌∷◌, ◌++◌, Result, Ok, Err}
use Rattle.expr_tree.specs.Tree.{Tree}
use Rattle.semantics.specs.Definitions.{Definitions}
use Rattle.semantics.specs.Program.{Call}
use Rattle.semantics.specs.Play.{Setting, State, End, Value, Stopped, Throwing, Thrown, Quit, Closed, Reply, begun}
use Rattle.semantics.specs.Eval.{Event, Evaluation, Ended, Needs, Wrong, eval}
use Rattle.evaluation_steps.specs.Words.{Evaluated}
use Rattle.evaluation_steps.specs.declared.Exit.{Exit}

-- The list comes after the list `before`. The evaluation over what comes before an event needs its call; the step is made from the definitions there
abbrev pub Explain : {S : Type 0} → (S → Definitions → Call → Reply → Definitions → S → Type 0) → (List Event → Evaluation) → S → List Event → List Event → S → Type 0
Explain step evaluation s before [] z = s ≡ z
Explain step evaluation s before (a ∷ events) z =
    (m : _) × ((evaluation before).outcome ≡ Needs a.call) × step s (evaluation before).definitions a.call a.reply a.after m × Explain step evaluation m (before ++ a ∷ []) events z

-- the evaluation ends so at this state, and nothing of the list is left
pub record EndsAs (v : Evaluation) (o : End) (st : State) : Type 0 where
  pub outcome : v.outcome ≡ Ended o
  pub definitions : v.definitions ≡ st.definitions
  pub steps : v.steps ≡ st.steps
  pub used : v.used ≡ st.used
  pub rest : v.rest ≡ []

-- with want of memory, that the list is no wrong one
abbrev pub Told : Evaluation → Result Tree Exit → State → Type 0
Told v (Ok e) st = EndsAs v (Value e) st
Told v (Err (Exit.Stopped c)) st = EndsAs v (Stopped c) st
Told v (Err (Exit.Throwing e)) st = EndsAs v (Throwing e) st
Told v (Err (Exit.Thrown e)) st = EndsAs v (Thrown e) st
Told v (Err Exit.Quit) st = EndsAs v Quit st
Told v (Err Exit.Closed) st = EndsAs v Closed st
Told v (Err Exit.NoMemory) st = v.outcome ≡ Wrong → ⊥

abbrev pub Explained : {S : Type 0} → (S → Definitions → Call → Reply → Definitions → S → Type 0) → Type 0
Explained {S = S} step =
    (set : Setting) (d : Definitions) (e : Tree) (s z : S) (r : Result Tree Exit) (st : State)
    → Evaluated step set set.limits.recursion e s (begun d) r st z
    → (events : List Event) × Explain step (eval set d e) s [] events z × Told (eval set d e events) r st
