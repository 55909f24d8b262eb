-- What is left of a fixed point, and symbols that were made.
use Rattle.std.specs.Prelude.{ℕ, List, [], ◌∷◌}
use Rattle.expr_tree.specs.Tree.{Tree}
use Rattle.semantics.specs.Names.{Names}
use Rattle.semantics.specs.Definitions.{Definitions}
use Rattle.semantics.specs.Program.{Local}
use Rattle.semantics.specs.Play.{Setting, State, passes, eval_at, written, local_definition}
use Rattle.evaluation_steps.specs.Leads.{Step, Leads}

-- from e with so many changing passes left to f with fewer
pub record Passed {S : Type 0} (step : Step S) (set : Setting) (n : ℕ) (left : ℕ) (e : Tree) (s : S) (st : State) (left' : ℕ) (f : Tree) (st' : State) (z : S) : Type 0 where
  pub on : Leads step s (passes set (eval_at set n) left e st) (passes set (eval_at set n) left' f st') z

-- the definitions with each of these symbols made
abbrev pub made : Names → List Local → Definitions → Definitions
made names [] d = d
made names (l ∷ ls) d = made names ls (written names d l.symbol (local_definition l))
