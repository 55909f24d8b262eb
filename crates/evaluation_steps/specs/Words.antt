-- What the functions of an evaluator say. In each word s and st are the state of the outside and of the evaluation before, z and st' after.
--     Evaluated     an expression, with so many nested evaluations left
--     Settled       an expression, with so many changing passes left
--     Played        a closed program, to its end;  Reached  up to what is left of it
--     Ran           a part of a program, to the value that it gives on;  Led  up to what is left of it
--     Called        one call of the outside
use Rattle.std.specs.Prelude.{◌≡◌, ℕ, ◌<◌, ◌≤◌, ◌+◌, Bool, true, false, Option, Some, None, Result, Ok, Err}
use Rattle.expr_tree.specs.Tree.{Tree}
use Rattle.semantics.specs.Definitions.{Definitions}
use Rattle.semantics.specs.Program.{Prog, Done, Stops, Quits, Throws, Call}
use Rattle.expr_tree.specs.declared.limits.Stop.{Stop}
use Rattle.expr_tree.specs.declared.limits.Limits.{Limits}
use Rattle.semantics.specs.Play.{Setting, State, Play, Over, Value, run, passes, eval_at, calling, too_large, after_number, last_number}
use Rattle.evaluation_steps.specs.Leads.{Step, Leads, Went}
use Rattle.evaluation_steps.specs.declared.Exit.{Exit}
use Rattle.evaluation_steps.specs.declared.Halt.{Halt}

pub record Evaluated {S : Type 0} (step : Step S) (set : Setting) (n : ℕ) (e : Tree) (s : S) (st : State) (r : Result Tree Exit) (st' : State) (z : S) : Type 0 where
  pub went : Went step s (eval_at set n e st) r (λ v. Over (Value v) st') st' z

pub record Settled {S : Type 0} (step : Step S) (set : Setting) (n left : ℕ) (e : Tree) (s : S) (st : State) (r : Result Tree Exit) (st' : State) (z : S) : Type 0 where
  pub went : Went step s (passes set (eval_at set n) left e st) r (λ v. Over (Value v) st') st' z

pub record Played {S : Type 0} (step : Step S) (set : Setting) (n : ℕ) (p : Prog) (s : S) (st : State) (r : Result Tree Exit) (st' : State) (z : S) : Type 0 where
  pub went : Went step s (run set (eval_at set n) p st) r (λ v. Over (Value v) st') st' z

pub record Reached {S : Type 0} (step : Step S) (set : Setting) (n : ℕ) (p : Prog) (s : S) (st : State) (q : Prog) (st' : State) (z : S) : Type 0 where
  pub on : Leads step s (run set (eval_at set n) p st) (run set (eval_at set n) q st') z

-- k is what stands after the part
pub record Ran {S A : Type 0} (step : Step S) (set : Setting) (n : ℕ) (p : (A → Prog) → Prog) (s : S) (st : State) (r : Result A Exit) (st' : State) (z : S) : Type 0 where
  pub went : (k : A → Prog) → Went step s (run set (eval_at set n) (p k) st) r (λ v. run set (eval_at set n) (k v) st') st' z

pub record Led {S A : Type 0} (step : Step S) (set : Setting) (n : ℕ) (p : (A → Prog) → Prog) (s : S) (st : State) (q : (A → Prog) → Prog) (st' : State) (z : S) : Type 0 where
  pub on : (k : A → Prog) → Reached step set n (p k) s st (q k) st' z

pub record Called {S : Type 0} (step : Step S) (c : Call) (s : S) (st : State) (r : Result Tree Exit) (st' : State) (z : S) : Type 0 where
  pub went : (k : Tree → State → Play) → Went step s (calling c st k) r (λ v. k v st') st' z

-- ---- what asks nothing

abbrev pub Given : Prog → Result Tree Exit → Type 0
Given p (Ok v) = p ≡ Done v
Given p (Err (Exit.Stopped c)) = p ≡ Stops c
Given p (Err (Exit.Throwing v)) = p ≡ Throws v
Given p (Err (Exit.Thrown v)) = ⊥
Given p (Err Exit.Quit) = p ≡ Quits
Given p (Err Exit.Closed) = ⊥
Given p (Err Exit.NoMemory) = Unit {0}

-- the program has its end
pub record Gives (p : Prog) (r : Result Tree Exit) : Type 0 where
  pub by : Given p r

abbrev pub Tallied : Bool → ℕ → ℕ → Result (Unit {0}) Halt → ℕ → Type 0
Tallied true limit a (Ok u) b = (a < limit) × (b ≡ a + 1)
Tallied true limit a (Err h) b = (h ≡ Halt.Stopped Stop.Steps) × (limit ≤ a) × (b ≡ a)
Tallied false limit a (Ok u) b = b ≡ a
Tallied false limit a (Err h) b = ⊥

-- a step was counted, if this is a turn
pub record Counted (turn : Bool) (limit a : ℕ) (r : Result (Unit {0}) Halt) (b : ℕ) : Type 0 where
  pub by : Tallied turn limit a r b

abbrev pub FitsBy : Option Stop → Result (Unit {0}) Halt → Type 0
FitsBy None (Ok u) = Unit {0}
FitsBy None (Err h) = ⊥
FitsBy (Some c) (Ok u) = ⊥
FitsBy (Some c) (Err h) = h ≡ Halt.Stopped c

-- an expression that counts as a result is within the limits, or stops the evaluation
pub record Fits (limits : Limits) (e : Tree) (r : Result (Unit {0}) Halt) : Type 0 where
  pub by : FitsBy (too_large limits e) r

abbrev pub NumberedBy : Definitions → Result ℕ Halt → Definitions → Type 0
NumberedBy d (Ok m) d' = (d.module_number ≡ last_number → ⊥) × (m ≡ d.module_number) × (d' ≡ after_number d)
NumberedBy d (Err h) d' = (h ≡ Halt.Stopped Stop.Range) × (d.module_number ≡ last_number) × (d' ≡ d)

-- a module number was taken, or none is left
pub record Numbered (d : Definitions) (r : Result ℕ Halt) (d' : Definitions) : Type 0 where
  pub by : NumberedBy d r d'
