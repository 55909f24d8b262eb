-- What the parts of these machines say of their steps, while definitions stand as they are.
--     Walks, Passes         a step of a walk; the same of a part of it, after which the walk may go on at a place
--     Ends                  a program stops, or comes to a value that passes a limit
--     Heads                 a program is the head of a move, once the definitions are read and expressions are within the limits
--     Goes                  a step of a machine
--     GoesOn                the same of a part of a step, which may leave the machine without a move
use Rattle.std.specs.Prelude.{◌≡◌, ◌⊎◌, Option, Some, None, Result, Ok, Err}
use Rattle.expr_tree.specs.Tree.{Tree}
use Rattle.expr_tree.specs.declared.limits.Limits.{Limits}
use Rattle.semantics.specs.Names.{Names}
use Rattle.semantics.specs.Definitions.{Definitions}
use Rattle.semantics.specs.Program.{Prog, Done, Ask, Turn}
use Rattle.semantics.specs.Play.{too_large}
use Rattle.evaluation_steps.specs.declared.Halt.{Halt}
use Rattle.evaluation_steps.specs.Moves.{turning}
use Rattle.machine_steps.specs.declared.moves.Move.{Move}
use Rattle.rule_frames.specs.Reading.{Shows, HasStopped}
use Rattle.machine_rules.specs.declared.walk.Walked.{Walked}

-- a program before what goes on with a whole
abbrev pub Part : Type 0
Part = (Tree → Prog) → Prog

abbrev pub Shown : Names → Definitions → Limits → Part → Walked → (Option Tree → Part) → Type 0
Shown names d limits p (Walked.Ask e turn) rest = (k : Tree → Prog) → Shows names d limits (p k) (turning turn (Ask e (λ v. rest (Some v) k)))
Shown names d limits p (Walked.Whole v) rest = (k : Tree → Prog) → Shows names d limits (p k) (k v)

abbrev pub Halted : Names → Definitions → Limits → Part → Halt → Type 0
Halted names d limits p (Halt.Stopped c) = (k : Tree → Prog) → HasStopped names d limits (p k) c
Halted names d limits p Halt.NoMemory = Unit {0}

abbrev pub WalksBy : Names → Definitions → Limits → Part → Result Walked Halt → (Option Tree → Part) → Type 0
WalksBy names d limits p (Ok w) rest = Shown names d limits p w rest
WalksBy names d limits p (Err h) rest = Halted names d limits p h

pub record Walks (names : Names) (d : Definitions) (limits : Limits) (p : Part) (r : Result Walked Halt) (rest : Option Tree → Part) : Type 0 where
  pub by : WalksBy names d limits p r rest

abbrev pub PassesBy : Names → Definitions → Limits → Part → Result (Option Walked) Halt → (Option Tree → Part) → Part → Type 0
PassesBy names d limits p (Ok None) rest next = (k : Tree → Prog) → Shows names d limits (p k) (next k)
PassesBy names d limits p (Ok (Some w)) rest next = Shown names d limits p w rest
PassesBy names d limits p (Err h) rest next = Halted names d limits p h

-- where it comes to nothing, next is left
pub record Passes (names : Names) (d : Definitions) (limits : Limits) (p : Part) (r : Result (Option Walked) Halt) (rest : Option Tree → Part) (next : Part) : Type 0 where
  pub by : PassesBy names d limits p r rest next

-- ---- machines

abbrev pub EndsBy : Names → Definitions → Limits → Prog → Halt → Type 0
EndsBy names d limits p (Halt.Stopped c) = HasStopped names d limits p c ⊎ ((v : Tree) × (Shows names d limits p (Done v)) × (too_large limits v ≡ Some c))
EndsBy names d limits p Halt.NoMemory = Unit {0}

pub record Ends (names : Names) (d : Definitions) (limits : Limits) (p : Prog) (h : Halt) : Type 0 where
  pub by : EndsBy names d limits p h

-- these machines ask, take turns and give results: they put no locals by, and do not stay once they have started; a turn goes on
-- whatever the answer is
abbrev pub Heads : Names → Definitions → Limits → Prog → Move → (Option Tree → Prog) → Type 0
Heads names d limits p (Move.Ask e turn) rest = Shows names d limits p (turning turn (Ask e (λ v. rest (Some v))))
Heads names d limits p (Move.Within ls e turn) rest = ⊥
Heads names d limits p (Move.Catch e) rest = ⊥
Heads names d limits p (Move.Section locks e) rest = ⊥
Heads names d limits p (Move.Call request) rest = ⊥
Heads names d limits p Move.Turn rest = (answer : Option Tree) → Shows names d limits p (Turn (rest answer))
Heads names d limits p (Move.Done e) rest = Shows names d limits p (Done e)
Heads names d limits p Move.Stays rest = ⊥
Heads names d limits p (Move.Throw e) rest = ⊥
Heads names d limits p Move.Quit rest = ⊥

abbrev pub GoesBy : Names → Definitions → Limits → Prog → Result Move Halt → (Option Tree → Prog) → Type 0
GoesBy names d limits p (Ok m) rest = Heads names d limits p m rest
GoesBy names d limits p (Err h) rest = Ends names d limits p h

pub record Goes (names : Names) (d : Definitions) (limits : Limits) (p : Prog) (r : Result Move Halt) (rest : Option Tree → Prog) : Type 0 where
  pub by : GoesBy names d limits p r rest

abbrev pub GoesOnBy : Names → Definitions → Limits → Prog → Result (Option Move) Halt → (Option Tree → Prog) → Prog → Type 0
GoesOnBy names d limits p (Ok None) rest next = Shows names d limits p next
GoesOnBy names d limits p (Ok (Some m)) rest next = Heads names d limits p m rest
GoesOnBy names d limits p (Err h) rest next = Ends names d limits p h

-- with no move, `next` is left
pub record GoesOn (names : Names) (d : Definitions) (limits : Limits) (p : Prog) (r : Result (Option Move) Halt) (rest : Option Tree → Prog) (next : Prog) : Type 0 where
  pub by : GoesOnBy names d limits p r rest next
