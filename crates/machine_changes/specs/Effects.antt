-- What parts of a step say.
--     is_refused            a shared symbol that is no access, in an item
--     Assigned              an assignment, up to what follows it
--     Evaluates             a part that asks nothing and changes nothing, up to what follows it
use Rattle.std.specs.Prelude.{◌≡◌, ℕ, List, Bool, true, false, Option, Result, Ok, Err}
use Rattle.expr_tree.specs.declared.sym.Sym.{Sym}
use Rattle.expr_tree.specs.Tree.{Tree}
use Rattle.semantics.specs.Assign.{Form}
use Rattle.semantics.specs.Changes.{assign}
use Rattle.semantics.specs.Control.{failed}
use Rattle.semantics.specs.Definitions.{Definitions}
use Rattle.evaluation_steps.specs.declared.Halt.{Halt}
use Rattle.semantics.specs.Program.{Prog, Mode, Item}
use Rattle.semantics.specs.Play.{Setting, Evaluator, State, Over, Stopped, run}
use Rattle.machine_steps.specs.Steps.{state_at}
use Rattle.machine_changes.specs.declared.left_call.LeftSide.{LeftSide}
use Rattle.machine_changes.specs.Larger.{Replaces}

abbrev pub is_refused : Mode → Bool → Bool
is_refused mode false = false
is_refused mode true = elim mode [ Item ↦ true | _ ↦ false ]

pub record Assigned (set : Setting) (form : Form) (left right : Tree) (d : Definitions) (used done : Bool) (d' : Definitions) (used' : Bool) : Type 0 where
  pub by : (p : Prog) (ev : Evaluator) (steps : ℕ) (open_section : Option (List Sym))
      → run set ev (assign set.names form left right p) (state_at d used steps open_section)
      ≡ run set ev (elim done [ true ↦ p | false ↦ failed set.names ]) (state_at d' used' steps open_section)

abbrev pub EvaluatesBy : Setting → ((Tree → Prog) → Prog) → Result LeftSide Halt → Type 0
EvaluatesBy set p (Ok (LeftSide.Whole l)) = (k : Tree → Prog) (ev : Evaluator) (st : State) → run set ev (p k) st ≡ run set ev (k l) st
EvaluatesBy set p (Ok (LeftSide.Large e)) = (l : Tree) × Replaces set.names e l × ((k : Tree → Prog) (ev : Evaluator) (st : State) → run set ev (p k) st ≡ run set ev (k l) st)
EvaluatesBy set p (Err (Halt.Stopped c)) = (k : Tree → Prog) (ev : Evaluator) (st : State) → run set ev (p k) st ≡ Over (Stopped c) st
EvaluatesBy set p (Err Halt.NoMemory) = Unit {0}

pub record Evaluates (set : Setting) (p : (Tree → Prog) → Prog) (r : Result LeftSide Halt) : Type 0 where
  pub by : EvaluatesBy set p r
