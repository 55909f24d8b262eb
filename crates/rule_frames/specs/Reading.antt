-- What a machine answers, where the definitions that stand at the time are read on the way.
--     Tells                 a source tells the attributes that symbols have
--     Shows, HasStopped     a program is another one, or stops, once the definitions are read and expressions are within the limits
--     Tried, Goes           the answer of a trial of rules
use Rattle.std.specs.Prelude.{◌≡◌, Option, Some, None, Result, Ok, Err}
use Rattle.expr_tree.specs.declared.sym.Sym.{Sym}
use Rattle.expr_tree.specs.declared.attrs.Attrs.{Attrs}
use Rattle.expr_tree.specs.declared.limits.Limits.{Limits}
use Rattle.expr_tree.specs.declared.limits.Stop.{Stop}
use Rattle.expr_tree.specs.Tree.{Tree}
use Rattle.semantics.specs.declared.builtin.Builtin.{Builtin}
use Rattle.semantics.specs.Names.{Names}
use Rattle.semantics.specs.Match.{Matching}
use Rattle.semantics.specs.Definitions.{Attributes, Definitions, definition_of, has}
use Rattle.semantics.specs.Program.{Prog, Stops, Ask, Look, Check, Seen}
use Rattle.semantics.specs.Play.{seen, too_large}
use Rattle.evaluation_steps.specs.declared.Halt.{Halt}
use Rattle.evaluation_steps.specs.Moves.{Try, Guards, Yields, Fails, turning, tried}
use Rattle.match_seq.specs.Heads.{matching}

abbrev pub matching_in : Attributes → Matching
matching_in a = record { flat = has Builtin.Flat a; orderless = has Builtin.Orderless a }

pub record Tells (names : Names) (d : Definitions) (told : Sym → Attrs) : Type 0 where
  pub by : (s : Sym) → matching (told s) ≡ matching_in (definition_of names d s).attributes

pub data Shows (names : Names) (d : Definitions) (limits : Limits) : Prog → Prog → Type 0 where
  same : {p : Prog} → Shows names d limits p p
  fitting : {e : Tree} {p q : Prog} → too_large limits e ≡ None → Shows names d limits p q → Shows names d limits (Check e p) q
  looked : {s : Sym} {k : Seen → Prog} {q : Prog} → Shows names d limits (k (seen names d s)) q → Shows names d limits (Look s k) q

pub data HasStopped (names : Names) (d : Definitions) (limits : Limits) : Prog → Stop → Type 0 where
  stop : {c : Stop} → HasStopped names d limits (Stops c) c
  large : {e : Tree} {p : Prog} {c : Stop} → too_large limits e ≡ Some c → HasStopped names d limits (Check e p) c
  passing : {e : Tree} {p : Prog} {c : Stop} → too_large limits e ≡ None → HasStopped names d limits p c → HasStopped names d limits (Check e p) c
  looking : {s : Sym} {k : Seen → Prog} {c : Stop} → HasStopped names d limits (k (seen names d s)) c → HasStopped names d limits (Look s k) c

-- what follows an answer; where nothing applies, what comes next
abbrev pub followed : Try → (Option Tree → (Option Tree → Prog) → Prog) → ((Option Tree → Prog) → Prog) → (Option Tree → Prog) → Prog
followed (Guards e turn) rest next k = turning turn (Ask e (λ v. rest (Some v) k))
followed (Yields v) rest next k = k (Some v)
followed Fails rest next k = next k

abbrev pub GoesBy : Names → Definitions → Limits → ((Option Tree → Prog) → Prog) → Result Try Halt → (Option Tree → (Option Tree → Prog) → Prog) → ((Option Tree → Prog) → Prog) → Type 0
GoesBy names d limits p (Ok t) rest next = (k : Option Tree → Prog) → Shows names d limits (p k) (followed t rest next k)
GoesBy names d limits p (Err (Halt.Stopped c)) rest next = (k : Option Tree → Prog) → HasStopped names d limits (p k) c
GoesBy names d limits p (Err Halt.NoMemory) rest next = Unit {0}

-- the answer is the head of the trial, and rest what is left; where this part fails, next is left
pub record Goes (names : Names) (d : Definitions) (limits : Limits) (p : (Option Tree → Prog) → Prog) (r : Result Try Halt) (rest : Option Tree → (Option Tree → Prog) → Prog) (next : (Option Tree → Prog) → Prog) : Type 0 where
  pub by : GoesBy names d limits p r rest next

abbrev pub TriedBy : Names → Definitions → Limits → ((Option Tree → Prog) → Prog) → Result Try Halt → (Option Tree → (Option Tree → Prog) → Prog) → Type 0
TriedBy names d limits p (Ok t) rest = (k : Option Tree → Prog) → Shows names d limits (p k) (tried t rest k)
TriedBy names d limits p (Err (Halt.Stopped c)) rest = (k : Option Tree → Prog) → HasStopped names d limits (p k) c
TriedBy names d limits p (Err Halt.NoMemory) rest = Unit {0}

-- the answer is the head of the trial, and rest what is left
pub record Tried (names : Names) (d : Definitions) (limits : Limits) (p : (Option Tree → Prog) → Prog) (r : Result Try Halt) (rest : Option Tree → (Option Tree → Prog) → Prog) : Type 0 where
  pub by : TriedBy names d limits p r rest
