-- What the functions of the evaluator say.
--     or_itself             a value that may be left out where it is the old one itself
--     PassOf                a pass, whose result may be too large to be made
--     Judged                a pass whose own throw was judged
--     Stepped               a step of the sequence: it has a result, or the rest follows
use Rattle.std.specs.Prelude.{◌≡◌, ℕ, Option, Some, None, Result, Ok, Err, unwrap_or}
use Rattle.expr_tree.specs.Tree.{Tree}
use Rattle.expr_tree.specs.declared.limits.Stop.{Stop}
use Rattle.semantics.specs.Pass.{pass}
use Rattle.semantics.specs.Program.{Prog}
use Rattle.semantics.specs.Play.{Setting, State, too_large}
use Rattle.evaluation_steps.specs.declared.Exit.{Exit}
use Rattle.evaluation_steps.specs.Leads.{Step}
use Rattle.evaluation_steps.specs.Words.{Played, Reached, Settled}

abbrev pub or_itself : {A E : Type 0} → A → Result (Option A) E → Result A E
or_itself old (Ok new) = Ok (unwrap_or new old)
or_itself old (Err x) = Err x

-- where its value cannot be made, the pass ends with the limit that the value passes
pub data PassOf {S : Type 0} (step : Step S) (set : Setting) (n : ℕ) (p : Prog) (s : S) (st : State) : Result Tree Exit → State → S → Type 0 where
  valued : {v : Tree} {st' : State} {z : S} → Played step set n p s st (Ok v) st' z → PassOf step set n p s st (Ok v) st' z
  ended : {x : Exit} {st' : State} {z : S} → Played step set n p s st (Err x) st' z → PassOf step set n p s st (Err x) st' z
  large : {v : Tree} {c : Stop} {st' : State} {z : S} → Played step set n p s st (Ok v) st' z → too_large set.limits v ≡ Some c → PassOf step set n p s st (Err (Exit.Stopped c)) st' z

-- it has a value, or the evaluation of its expression has ended
abbrev pub JudgedBy : {S : Type 0} → Step S → Setting → ℕ → ℕ → Tree → S → State → Result Tree Exit → State → S → Type 0
JudgedBy step set n m e s st (Ok v) st' z = PassOf step set n (pass set.names e) s st (Ok v) st' z
JudgedBy step set n m e s st (Err x) st' z = Settled step set n m e s st (Err x) st' z

pub record Judged {S : Type 0} (step : Step S) (set : Setting) (n m : ℕ) (e : Tree) (s : S) (st : State) (r : Result Tree Exit) (st' : State) (z : S) : Type 0 where
  pub by : JudgedBy step set n m e s st r st' z

abbrev pub SteppedBy : {S : Type 0} → Step S → Setting → ℕ → (Prog → Prog) → S → State → Result (Option Tree) Exit → State → S → Prog → Type 0
SteppedBy step set n p s st (Ok None) st' z rest = Reached step set n (p rest) s st rest st' z
SteppedBy step set n p s st (Ok (Some v)) st' z rest = PassOf step set n (p rest) s st (Ok v) st' z
SteppedBy step set n p s st (Err x) st' z rest = PassOf step set n (p rest) s st (Err x) st' z

pub record Stepped {S : Type 0} (step : Step S) (set : Setting) (n : ℕ) (p : Prog → Prog) (s : S) (st : State) (r : Result (Option Tree) Exit) (st' : State) (z : S) : Type 0 where
  pub by : (rest : Prog) → SteppedBy step set n p s st r st' z rest
