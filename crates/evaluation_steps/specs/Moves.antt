-- Machines: what a machine answers is the head of the program that it stands for, and what is left once its question is answered is the rest.
use Rattle.std.specs.Prelude.{◌≡◌, Bool, true, false, List, Option, Some, None, Result, Ok, Err}
use Rattle.expr_tree.specs.declared.sym.Sym.{Sym}
use Rattle.expr_tree.specs.Tree.{Tree}
use Rattle.semantics.specs.Program.{Prog, Done, Stops, Ask, Within, Look, Turn, Check, Moded, Local}
use Rattle.expr_tree.specs.declared.limits.Stop.{Stop}
use Rattle.semantics.specs.Scoping.{make_all}
use Rattle.expr_tree.specs.declared.limits.Limits.{Limits}
use Rattle.semantics.specs.Play.{too_large}
use Rattle.evaluation_steps.specs.declared.Halt.{Halt}

-- the truth value says that the question begins a turn
pub data Move : Type 0 where
  -- an expression is evaluated one deeper; the same with locals put by and put back
  Asks : Tree → Bool → Move
  Locals : List Local → Tree → Bool → Move
  -- it goes on without an answer, unless a symbol is shared; where it is, the expression is the result
  Unless : Sym → Tree → Move
  -- symbols get their values for good, and the expression is the result
  Makes : List Local → Tree → Move
  Results : Tree → Move

abbrev pub turning : Bool → Prog → Prog
turning true p = Turn p
turning false p = p

abbrev pub headed : Move → (Option Tree → Prog) → Prog
headed (Asks e turn) rest = turning turn (Ask e (λ v. rest (Some v)))
headed (Locals ls e turn) rest = turning turn (Within ls e (λ v. rest (Some v)))
headed (Unless s e) rest = Look s (λ seen. elim seen.shared [ None ↦ rest None | Some kind ↦ Moded (λ mode kernel. Done e) ])
headed (Makes ls e) rest = make_all ls (Done e)
headed (Results e) rest = Done e

-- p is q, but for expressions that are within the limits
pub data Shows (limits : Limits) : Prog → Prog → Type 0 where
  same : {p : Prog} → Shows limits p p
  fitting : {e : Tree} {p q : Prog} → too_large limits e ≡ None → Shows limits p q → Shows limits (Check e p) q

-- p stops, or comes to an expression that is too large
pub data HasStopped (limits : Limits) : Prog → Stop → Type 0 where
  stop : {c : Stop} → HasStopped limits (Stops c) c
  large : {e : Tree} {p : Prog} {c : Stop} → too_large limits e ≡ Some c → HasStopped limits (Check e p) c
  passing : {e : Tree} {p : Prog} {c : Stop} → too_large limits e ≡ None → HasStopped limits p c → HasStopped limits (Check e p) c

abbrev pub MovedBy : Limits → Prog → Result Move Halt → (Option Tree → Prog) → Type 0
MovedBy limits p (Ok m) rest = Shows limits p (headed m rest)
MovedBy limits p (Err (Halt.Stopped c)) rest = HasStopped limits p c
MovedBy limits p (Err Halt.NoMemory) rest = Unit {0}

-- the move is the head of p, and rest the program after it
pub record Moved (limits : Limits) (p : Prog) (r : Result Move Halt) (rest : Option Tree → Prog) : Type 0 where
  pub by : MovedBy limits p r rest

-- ---- trials of rules, which have two ways to go on: with the result, or with none

-- the truth value says that the guard is the first of its binding
pub data Try : Type 0 where
  Guards : Tree → Bool → Try
  Yields : Tree → Try
  Fails : Try

abbrev pub tried : Try → (Option Tree → (Option Tree → Prog) → Prog) → (Option Tree → Prog) → Prog
tried (Guards e turn) rest k = turning turn (Ask e (λ v. rest (Some v) k))
tried (Yields v) rest k = k (Some v)
tried Fails rest k = k None

abbrev pub TriedBy : Limits → ((Option Tree → Prog) → Prog) → Result Try Halt → (Option Tree → (Option Tree → Prog) → Prog) → Type 0
TriedBy limits p (Ok t) rest = (k : Option Tree → Prog) → Shows limits (p k) (tried t rest k)
TriedBy limits p (Err (Halt.Stopped c)) rest = (k : Option Tree → Prog) → HasStopped limits (p k) c
TriedBy limits p (Err Halt.NoMemory) rest = Unit {0}

pub record Tried (limits : Limits) (p : (Option Tree → Prog) → Prog) (r : Result Try Halt) (rest : Option Tree → (Option Tree → Prog) → Prog) : Type 0 where
  pub by : TriedBy limits p r rest
