-- What machines say of their steps. A machine stands for the program that is left of a row or of a trial of rules; `stay` is the program where
-- the expression stays as it is. A step reads and changes definitions, and tells what comes next: the head of the program that is left.
--     Next, next_of         what comes next, as the definitions have it
--     headed                the program that it is the head of; `rest` is what is left, with the answer if there was a question
--     Stepped               a step, whatever an evaluation one deeper means
--     Starts                the machine of a row, before its first step
--     StartsWhere           the same where a section is open or not
--     Falls                 the questions that are left grow fewer
use Rattle.std.specs.Prelude.{◌≡◌, ◌⊎◌, ◌<◌, ℕ, Bool, List, Option, Some, None, is_some, Result, Ok, Err}
use Rattle.expr_tree.specs.declared.sym.Sym.{Sym}
use Rattle.expr_tree.specs.Tree.{Tree}
use Rattle.semantics.specs.Definitions.{Definitions}
use Rattle.semantics.specs.Program.{Prog, Done, Quits, Throws, Ask, Catches, Within, Section, Turn, Outer}
use Rattle.semantics.specs.Play.{Setting, State, Evaluator, Over, Value, Stopped, run, too_large}
use Rattle.evaluation_steps.specs.declared.Halt.{Halt}
use Rattle.evaluation_steps.specs.Moves.{turning}
use Rattle.frames_scope.specs.Reading.{locals_in}
use Rattle.machine_steps.specs.Outward.{request_of}
use Rattle.machine_steps.specs.declared.moves.Move.{Move}

abbrev pub headed : Move → Prog → (Option Tree → Prog) → Prog
headed (Move.Ask e turn) stay rest = turning turn (Ask e (λ v. rest (Some v)))
headed (Move.Within ls e turn) stay rest = turning turn (Within (locals_in ls) e (λ v. rest (Some v)))
headed (Move.Catch e) stay rest = Catches e (λ v. rest (Some v))
headed (Move.Section locks e) stay rest = Section locks e (λ v. rest (Some v))
headed (Move.Call request) stay rest = Outer (request_of request) (λ v. rest (Some v))
headed Move.Turn stay rest = Turn (rest None)
headed (Move.Done e) stay rest = Done e
headed Move.Stays stay rest = stay
headed (Move.Throw e) stay rest = Throws e
headed Move.Quit stay rest = Quits

abbrev pub state_at : Definitions → Bool → ℕ → Option (List Sym) → State
state_at d used steps open_section = record { definitions = d; steps = steps; used = used; open_section = open_section }

-- it ends with a stop; or with a value that cannot be made, which passes a limit
abbrev pub EndsBy : Setting → Prog → State → Halt → State → Type 0
EndsBy set p st (Halt.Stopped c) st' =
    ((ev : Evaluator) → run set ev p st ≡ Over (Stopped c) st') ⊎ ((v : Tree) × ((ev : Evaluator) → run set ev p st ≡ Over (Value v) st') × (too_large set.limits v ≡ Some c))
EndsBy set p st Halt.NoMemory st' = Unit {0}

abbrev pub SteppedBy : Setting → Prog → Prog → State → Result Move Halt → (Option Tree → Prog) → State → Type 0
SteppedBy set p stay st (Ok m) rest st' = (ev : Evaluator) → run set ev p st ≡ run set ev (headed m stay rest) st'
SteppedBy set p stay st (Err h) rest st' = EndsBy set p st h st'

-- p from these definitions, and whether mode and kernel have mattered, to what is left and the same afterwards
pub record Stepped (set : Setting) (p stay : Prog) (d : Definitions) (used : Bool) (r : Result Move Halt) (rest : Option Tree → Prog) (d' : Definitions) (used' : Bool) : Type 0 where
  pub by : (steps : ℕ) (open_section : Option (List Sym)) → SteppedBy set p stay (state_at d used steps open_section) r rest (state_at d' used' steps open_section)

-- p is the program of a machine before its first step; or that of an expression which stays
abbrev pub StartsBy : {F E : Type 0} → (F → Prog → Option Tree → Prog) → (Prog → Prog) → Result (Option F) E → Type 0
StartsBy left p (Ok (Some f)) = (stay : Prog) → p stay ≡ left f stay None
StartsBy left p (Ok None) = (stay : Prog) → p stay ≡ stay
StartsBy left p (Err e) = Unit {0}

pub record Starts {F E : Type 0} (left : F → Prog → Option Tree → Prog) (p : Prog → Prog) (r : Result (Option F) E) : Type 0 where
  pub by : StartsBy left p r

abbrev pub StartsWhereBy : {F E : Type 0} → Setting → (F → Prog → Option Tree → Prog) → (Prog → Prog) → State → Result (Option F) E → State → Type 0
StartsWhereBy set left p st (Ok (Some f)) st' = (ev : Evaluator) (stay : Prog) → run set ev (p stay) st ≡ run set ev (left f stay None) st'
StartsWhereBy set left p st (Ok None) st' = (ev : Evaluator) (stay : Prog) → run set ev (p stay) st ≡ run set ev stay st'
StartsWhereBy set left p st (Err e) st' = Unit {0}

-- The same of a row that asks whether a section is open, which its start is told; and it looks at mode and kernel
pub record StartsWhere {F E : Type 0} (set : Setting) (left : F → Prog → Option Tree → Prog) (p : Prog → Prog) (is_open used : Bool) (r : Result (Option F) E) (used' : Bool) : Type 0 where
  pub by : (d : Definitions) (steps : ℕ) (open_section : Option (List Sym)) → is_some open_section ≡ is_open
      → StartsWhereBy set left p (state_at d used steps open_section) r (state_at d used' steps open_section)

-- where the machine goes on, fewer questions are left, whatever the answer is
abbrev pub Falls : Result Move Halt → ℕ → (Option Tree → ℕ) → Type 0
Falls (Ok (Move.Ask e turn)) before after = (v : Option Tree) → after v < before
Falls (Ok (Move.Within ls e turn)) before after = (v : Option Tree) → after v < before
Falls (Ok (Move.Catch e)) before after = (v : Option Tree) → after v < before
Falls (Ok (Move.Section locks e)) before after = (v : Option Tree) → after v < before
Falls (Ok (Move.Call request)) before after = (v : Option Tree) → after v < before
Falls (Ok Move.Turn) before after = (v : Option Tree) → after v < before
Falls (Ok (Move.Done e)) before after = Unit {0}
Falls (Ok Move.Stays) before after = Unit {0}
Falls (Ok (Move.Throw e)) before after = Unit {0}
Falls (Ok Move.Quit) before after = Unit {0}
Falls (Err h) before after = Unit {0}
