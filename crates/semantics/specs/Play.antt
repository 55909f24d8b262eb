-- The meaning of a program: how an evaluation goes. It names no list of answers: where it needs a call, it says how it goes on from each reply.
--     State, End            what changes while it runs; how it ends
--     Play                  an end, or a call that is needed and how it goes on
--     run                   the meaning of a program, given what the evaluation of an expression one deeper means
--     passed                the end of a pass, which gives a result or throws
--     passes, eval_at       passes to a fixed point; an evaluation with so many nested evaluations left
use Rattle.std.specs.Prelude.{ℕ, zero, suc, ◌+◌, List, [], ◌∷◌, Bool, true, false, ltb, ◌==◌, ◌&&◌, Option, Some, None}
use Rattle.expr_tree.specs.declared.sym.Sym.{Sym}
use Rattle.expr_tree.specs.Tree.{Tree, size, depth}
use Rattle.expr_tree.specs.Order.{same}
use Rattle.semantics.specs.declared.builtin.Builtin.{Builtin}
use Rattle.semantics.specs.Names.{Names, name}
use Rattle.expr_tree.specs.Substitution.{among}
use Rattle.semantics.specs.Definitions.{Definition, Definitions, definition_of, stored, shared_as, put}
use Rattle.expr_tree.specs.declared.limits.Limits.{Limits}
use Rattle.expr_tree.specs.declared.limits.Stop.{Stop}
use Rattle.semantics.specs.Program.{Prog, Done, Stops, Quits, Throws, Ask, Catches, Within, Section, Open, Look, Put, Fresh, Turn, Check, Outer, Moded, Shown, Mode, Call, Sends, Enter, Leave, Local, Seen}
use Rattle.semantics.specs.Pass.{pass}

pub record State : Type 0 where
  pub definitions : Definitions
  pub steps : ℕ
  pub used : Bool
  pub open_section : Option (List Sym)

-- with a value, a stop, a throw that nothing caught, Quit, a call that was answered by Closed, or one that found no memory
pub data End : Type 0 where
  Value : Tree → End
  Stopped : Stop → End
  -- a pass that throws ends with `Throwing`, which its evaluation judges as a change of the expression before it ends with `Thrown`
  Throwing : Tree → End
  Thrown : Tree → End
  Quit : End
  Closed : End
  Starved : End

pub data Reply : Type 0 where
  Replied : Tree → Reply
  Halted : Stop → Reply
  Shut : Reply
  Lacking : Reply

pub data Play : Type 0 where
  -- it ends so
  Over : End → State → Play
  -- it needs this call, and goes on from the reply and the definitions after it
  Calls : Call → State → (Reply → Definitions → Play) → Play

-- what an evaluation is: an expression and a state to a play
abbrev pub Evaluator : Type 0
Evaluator = Tree → State → Play

-- p, and then k of its end
abbrev pub ending : Play → (End → State → Play) → Play
ending (Over o s) k = k o s
ending (Calls c s f) k = Calls c s (λ r d. ending (f r d) k)

-- goes on with a value; any other end is the end
abbrev pub on_value : (Tree → State → Play) → End → State → Play
on_value k (Value v) s = k v s
on_value k (Stopped cause) s = Over (Stopped cause) s
on_value k (Throwing v) s = Over (Throwing v) s
on_value k (Thrown v) s = Over (Thrown v) s
on_value k Quit s = Over Quit s
on_value k Closed s = Over Closed s
on_value k Starved s = Over Starved s

abbrev pub after : Play → (Tree → State → Play) → Play
after p k = ending p (on_value k)

-- goes on with a value or with what was thrown; any other end is the end
abbrev pub catching : (Tree → State → Play) → End → State → Play
catching k (Value v) s = k v s
catching k (Thrown v) s = k v s
catching k (Stopped cause) s = Over (Stopped cause) s
catching k (Throwing v) s = Over (Throwing v) s
catching k Quit s = Over Quit s
catching k Closed s = Over Closed s
catching k Starved s = Over Starved s

-- ---- the limits

-- of Size and Depth the first that is passed
abbrev pub first_cause : Bool → Bool → Option Stop
first_cause true deep = Some Stop.Size
first_cause false true = Some Stop.Depth
first_cause false false = None

abbrev pub too_large : Limits → Tree → Option Stop
too_large limits e = first_cause (ltb limits.size (size e)) (ltb limits.depth (depth e))

abbrev pub unless_stopped : Option Stop → State → (State → Play) → Play
unless_stopped None s k = k s
unless_stopped (Some cause) s k = Over (Stopped cause) s

-- one step more, where the limit leaves one
abbrev pub stepped : Bool → State → (State → Play) → Play
stepped true s k = k (record s { steps = s.steps + 1 })
stepped false s k = Over (Stopped Stop.Steps) s

abbrev pub with_step : Limits → State → (State → Play) → Play
with_step limits s k = stepped (ltb s.steps limits.steps) s k

-- ---- locals

-- a local has its new value and nothing else
abbrev pub local_definition : Local → Definition
local_definition l = record { attributes = []; own = l.value; downs = []; ups = [] }

abbrev pub put_locals : Names → List Local → Definitions → Definitions
put_locals names [] d = d
put_locals names (l ∷ ls) d = put_locals names ls (put names d l.symbol (local_definition l))

-- d with the locals as they were in `old`
abbrev pub put_back : Names → Definitions → List Local → Definitions → Definitions
put_back names old [] d = d
put_back names old (l ∷ ls) d = put_back names old ls (put names d l.symbol (stored names old l.symbol))

abbrev pub with_definitions : Definitions → State → State
with_definitions d s = record s { definitions = d }

abbrev pub with_locals : Names → List Local → State → State
with_locals names ls s = with_definitions (put_locals names ls s.definitions) s

-- s with the locals as they were in `old`
abbrev pub without_locals : Names → Definitions → List Local → State → State
without_locals names old ls s = with_definitions (put_back names old ls s.definitions) s

-- the locals are put back, and then it goes on with a value
abbrev pub leaving_locals : Names → Definitions → List Local → (Tree → State → Play) → End → State → Play
leaving_locals names old ls k o s = on_value k o (without_locals names old ls s)

-- ---- calls

-- a stop stops the evaluation with its cause
abbrev pub by_reply : Reply → State → (Tree → State → Play) → Play
by_reply (Replied v) s k = k v s
by_reply (Halted cause) s k = Over (Stopped cause) s
by_reply Shut s k = Over Closed s
by_reply Lacking s k = Over Starved s

-- a call; the definitions are those after it
abbrev pub calling : Call → State → (Tree → State → Play) → Play
calling c s k = Calls c s (λ r d. by_reply r (with_definitions d s) k)

abbrev pub opened : Option (List Sym) → State → State
opened locks s = record s { open_section = locks }

-- a stop or a throw inside a section makes the call Leave before it passes outwards; Quit and the rest make no further call
abbrev pub leaving : (Tree → State → Play) → End → State → Play
leaving k (Value v) s = calling Leave s (λ _ t. k v (opened None t))
leaving k (Stopped cause) s = calling Leave s (λ _ t. Over (Stopped cause) (opened None t))
leaving k (Thrown v) s = calling Leave s (λ _ t. Over (Thrown v) (opened None t))
leaving k (Throwing v) s = Over (Throwing v) s
leaving k Quit s = Over Quit s
leaving k Closed s = Over Closed s
leaving k Starved s = Over Starved s

abbrev pub all_among : List Sym → List Sym → Bool
all_among [] held = true
all_among (s ∷ ss) held = among s held && all_among ss held

abbrev pub by_locks : Bool → State → (State → Play) → (State → Play) → Play
by_locks true s stays fails = stays s
by_locks false s stays fails = fails s

-- an inner section is decided without a call: its locks are all held, or it fails
abbrev pub sectioned : Option (List Sym) → List Sym → State → (State → Play) → (State → Play) → (State → Play) → Play
sectioned None locks s enters stays fails = enters s
sectioned (Some held) locks s enters stays fails = by_locks (all_among locks held) s stays fails

-- ---- definitions

abbrev pub seen : Names → Definitions → Sym → Seen
seen names d s =
    record {
      definition = definition_of names d s;
      shared = elim (shared_as d.shared s) [ None ↦ None | Some e ↦ Some e.kind ];
    }

-- the attributes that are written to a shared symbol are not kept: it has those of the list of shared symbols
abbrev pub written : Names → Definitions → Sym → Definition → Definitions
written names d s new = put names d s (elim (shared_as d.shared s) [ None ↦ new | Some e ↦ record new { attributes = (stored names d s).attributes } ])

-- the last module number
abbrev pub last_number : ℕ
last_number = 999999999999999999

-- the definitions when a module number was taken
abbrev pub after_number : Definitions → Definitions
after_number d = record d { module_number = d.module_number + 1 }

abbrev pub if_number_left : Bool → State → (ℕ → State → Play) → Play
if_number_left true s k = Over (Stopped Stop.Range) s
if_number_left false s k = k s.definitions.module_number (with_definitions (after_number s.definitions) s)

abbrev pub numbered : State → (ℕ → State → Play) → Play
numbered s k = if_number_left (s.definitions.module_number == last_number) s k

-- ---- programs

-- what does not change: `shown` is the text of a value as an Out line shows it
pub record Setting : Type 0 where
  pub names : Names
  pub shown : Tree → List ℕ
  pub mode : Mode
  pub kernel : ℕ
  pub limits : Limits

abbrev pub now_used : State → State
now_used s = record s { used = true }

abbrev pub run : Setting → Evaluator → Prog → State → Play
run set ev (Done e) s = Over (Value e) s
run set ev (Stops cause) s = Over (Stopped cause) s
run set ev Quits s = Over Quit s
run set ev (Throws v) s = Over (Throwing v) s
run set ev (Ask e k) s = after (ev e s) (λ v t. run set ev (k v) t)
run set ev (Catches e k) s = ending (ev e s) (catching (λ v t. run set ev (k v) t))
run set ev (Within ls e k) s = ending (ev e (with_locals set.names ls s)) (leaving_locals set.names s.definitions ls (λ v t. run set ev (k v) t))
run set ev (Section locks e k) s =
    sectioned s.open_section locks s
    (λ t. calling (Enter locks) t (λ _ u. ending (ev e (opened (Some locks) u)) (leaving (λ v w. run set ev (k v) w))))
    (λ t. after (ev e t) (λ v u. run set ev (k v) u))
    (λ t. run set ev (k (name set.names Builtin.Failed)) t)
run set ev (Open k) s = run set ev (k s.open_section) s
run set ev (Look symbol k) s = run set ev (k (seen set.names s.definitions symbol)) s
run set ev (Put symbol new p) s = run set ev p (with_definitions (written set.names s.definitions symbol new) s)
run set ev (Fresh k) s = numbered s (λ m t. run set ev (k m) t)
run set ev (Turn p) s = with_step set.limits s (λ t. run set ev p t)
run set ev (Check e p) s = unless_stopped (too_large set.limits e) s (λ t. run set ev p t)
run set ev (Outer c k) s = calling (Sends c) s (λ v t. run set ev (k v) t)
run set ev (Moded k) s = run set ev (k set.mode set.kernel) (now_used s)
run set ev (Shown k) s = run set ev (k set.shown) s

-- ---- the fixed point

-- a pass that changes its expression is a step
abbrev pub changed : Setting → ℕ → Evaluator → Evaluator
changed set zero again v s = Over (Stopped Stop.Iteration) s
changed set (suc left) again v s = with_step set.limits s (again v)

-- the same expression ends it
abbrev pub settled : Bool → Setting → ℕ → Evaluator → Evaluator
settled true set left again v s = Over (Value v) s
settled false set left again v s = changed set left again v s

-- the result v of a pass on e: Size, Depth, then Iteration, then Steps
abbrev pub judged : Setting → ℕ → Evaluator → Tree → Evaluator
judged set left again e v s = unless_stopped (too_large set.limits v) s (λ t. settled (same v e) set left again v t)

-- the end of a pass on e: a throw of its own counts as a result that changes e; what was thrown inside it was counted there
abbrev pub passed : Setting → ℕ → Evaluator → Tree → End → State → Play
passed set left again e (Value v) s = judged set left again e v s
passed set left again e (Throwing v) s = changed set left (λ w t. Over (Thrown w) t) v s
passed set left again e (Stopped cause) s = Over (Stopped cause) s
passed set left again e (Thrown v) s = Over (Thrown v) s
passed set left again e Quit s = Over Quit s
passed set left again e Closed s = Over Closed s
passed set left again e Starved s = Over Starved s

-- passes until one changes nothing, with so many changing passes left
abbrev pub passes : Setting → Evaluator → ℕ → Evaluator
passes set ev zero e s = ending (run set ev (pass set.names e) s) (passed set zero (λ v t. Over (Stopped Stop.Iteration) t) e)
passes set ev (suc left) e s = ending (run set ev (pass set.names e) s) (passed set (suc left) (λ v t. passes set ev left v t) e)

-- with so many nested evaluations left
abbrev pub eval_at : Setting → ℕ → Evaluator
eval_at set zero e s = Over (Stopped Stop.Recursion) s
eval_at set (suc left) e s = passes set (λ f t. eval_at set left f t) set.limits.iteration e s

-- a whole evaluation, with fresh limits
abbrev pub begun : Definitions → State
begun d = record { definitions = d; steps = 0; used = false; open_section = None }

abbrev pub whole : Setting → Definitions → Tree → Play
whole set d e = eval_at set set.limits.recursion e (begun d)
