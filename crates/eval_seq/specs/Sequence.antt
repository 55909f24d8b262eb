-- The parts of a pass as the functions of the evaluator go through them.
--     attributes_seen       the attributes of a head
--     one_asked, asking     an element; the elements that are left
--     evaluated             head and elements; values_in, values_of are what they give on
--     after_values          splicing, and what follows it
--     IsSettled             no step that asks nothing changes the elements, threading aside
--     AssembledBy           the call after stripping, flattening, threading and sorting
--     last_of               the steps after them
--     unless_held           the up rules of the symbols of the elements
--     head_rules, head_row  the down rules of the head; its row
--     Answers, AnswersOr    the end of a program that asks nothing
--     Marks, Uses, Accesses a use of a symbol that may be shared, by what it leads to
use Rattle.std.specs.Prelude.{◌≡◌, ◌⊎◌, ◌<◌, ◌≤◌, ◌-◌, ℕ, List, [], ◌∷◌, ◌++◌, Bool, true, false, Option, Some, None, Result, Ok, Err, unwrap_or}
use Rattle.expr_tree.specs.declared.sym.Sym.{Sym}
use Rattle.expr_tree.specs.declared.limits.Limits.{Limits}
use Rattle.expr_tree.specs.Tree.{Tree, symbol, normal, elements, call, size, depth}
use Rattle.semantics.specs.declared.builtin.Builtin.{Builtin}
use Rattle.semantics.specs.Names.{Names, is_name}
use Rattle.semantics.specs.Steps.{strip}
use Rattle.semantics.specs.Definitions.{Definitions, Attributes, Share, definition_of, has}
use Rattle.semantics.specs.Program.{Prog, Done, Ask, Look, Outer, Access, Check, Seen}
use Rattle.semantics.specs.Assemble.{attributes_of, is_asked, ask_rest, ask_items, spliced, flattened, threaded, sorted}
use Rattle.semantics.specs.Sections.{access_or, unless_identical}
use Rattle.semantics.specs.Attempt.{try_rules}
use Rattle.semantics.specs.Scoping.{apply_function}
use Rattle.semantics.specs.Pass.{pass, later_steps, last_steps, left_standing, marked, up_rules, down_rules, built_in}
use Rattle.semantics.specs.Play.{Setting, State, Evaluator, run, seen, too_large}
use Rattle.builtin_names.specs.Attributes.{attributes_in}
use Rattle.evaluation_steps.specs.Leads.{Step}
use Rattle.evaluation_steps.specs.Words.{Played, Settled}
use Rattle.evaluation_steps.specs.Passed.{Passed}
use Rattle.evaluation_steps.specs.Moves.{Shows, HasStopped}
use Rattle.evaluation_steps.specs.declared.Halt.{Halt}
use Rattle.evaluation_steps.specs.declared.Exit.{Exit}
use Rattle.eval_seq.specs.declared.assemble.Assembled.{Assembled}
use Rattle.eval_seq.specs.declared.values.Values.{Values}

abbrev pub attributes_seen : Names → Definitions → Tree → Attributes
attributes_seen names d (symbol s) = (definition_of names d s).attributes
attributes_seen names d _ = []

abbrev pub one_asked : Names → Attributes → Bool → Tree → (Tree → Prog) → Prog
one_asked names a held e k = elim (is_asked names a held e) [ true ↦ Ask e k | false ↦ k e ]

-- `held` is said of the first of them
abbrev pub asking : Names → Attributes → Bool → List Tree → List Tree → (List Tree → Prog) → Prog
asking names a held [] done k = k done
asking names a held (e ∷ es) done k =
    elim (is_asked names a held e) [ true ↦ Ask e (λ v. ask_rest names a es (done ++ v ∷ []) k) | false ↦ ask_rest names a es (done ++ e ∷ []) k ]

abbrev pub evaluated : Names → Tree → List Tree → (Tree × Attributes × List Tree → Prog) → Prog
evaluated names h items k = Ask h (λ head. attributes_of head (λ a. ask_items names a items (λ values. k (head, a, values))))

abbrev pub values_in : Tree → List Tree → Values → Tree × Attributes × List Tree
values_in h items v = (unwrap_or v.head h, attributes_in v.attrs, unwrap_or v.items items)

abbrev pub values_of : Tree → List Tree → Result Values Exit → Result (Tree × Attributes × List Tree) Exit
values_of h items (Ok v) = Ok (values_in h items v)
values_of h items (Err x) = Err x

abbrev pub after_values : Names → Tree × Attributes × List Tree → Prog
after_values names t = Check (call t.0 (spliced names t.1 t.2)) (later_steps names t.0 t.1 (spliced names t.1 t.2))

abbrev pub stripped : Names → Attributes → List Tree → List Tree
stripped names a items = elim (has Builtin.HoldAllComplete a) [ true ↦ items | false ↦ strip names items ]

pub record IsSettled (names : Names) (head : Tree) (a : Attributes) (items : List Tree) : Type 0 where
  pub no_sequence : spliced names a items ≡ items
  pub no_wrapper : stripped names a items ≡ items
  pub stands : (whole : Tree) → left_standing names a head items whole ≡ whole
  pub is_flat : flattened head a items ≡ items
  pub in_order : sorted a items ≡ items

abbrev pub AssembledBy : Names → Tree → Attributes → List Tree → Assembled → Type 0
AssembledBy names head a items (Assembled.Threaded each) = threaded names head a (flattened head a (stripped names a items)) ≡ Some each
AssembledBy names head a items (Assembled.Call whole standing) =
    (threaded names head a (flattened head a (stripped names a items)) ≡ None)
    × (whole ≡ call head (sorted a (flattened head a (stripped names a items))))
    × (unwrap_or standing whole ≡ left_standing names a head items whole)

abbrev pub last_of : Names → Attributes → Tree → Prog → Prog
last_of names a (normal h es) rest = last_steps names a (elements es) (normal h es) rest h
last_of names a _ rest = rest

abbrev pub unless_held : Names → Attributes → List Tree → Tree → Prog → Prog
unless_held names a items e next = elim (has Builtin.HoldAllComplete a) [ true ↦ next | false ↦ up_rules names items e next ]

-- by these definitions; `next` follows where no rule applies
abbrev pub head_rules : Names → Definitions → Tree → List Tree → Tree → Prog → Prog
head_rules names d (symbol s) items e next = try_rules names (definition_of names d s).downs e Done next
head_rules names d (normal h fs) items e next = elim (is_name names Builtin.Function h) [ true ↦ apply_function names next (elements fs) items | false ↦ next ]
head_rules names d _ items e next = next

abbrev pub head_row : Names → Tree → List Tree → Tree → Prog → Prog
head_row names (symbol s) items e stay = built_in names s items e stay
head_row names _ items e stay = stay

abbrev pub AnswersBy : Limits → Prog → Result Tree Halt → Type 0
AnswersBy limits p (Ok v) = Shows limits p (Done v)
AnswersBy limits p (Err (Halt.Stopped c)) = HasStopped limits p c ⊎ ((v : Tree) × Shows limits p (Done v) × (too_large limits v ≡ Some c))
AnswersBy limits p (Err Halt.NoMemory) = Unit {0}

pub record Answers (limits : Limits) (p : Prog) (r : Result Tree Halt) : Type 0 where
  pub by : AnswersBy limits p r

-- an access that is sent, after whose reply `stay` follows where it is identical; else p
abbrev pub sent_or : Bool → Tree → Prog → Prog → Prog
sent_or sent e stay p = elim sent [ true ↦ Outer (Access e) (unless_identical e stay) | false ↦ p ]

pub record Marks (set : Setting) (kind : Share) (s : Sym) (st : State) (sent : Bool) (st' : State) : Type 0 where
  pub by : (ev : Evaluator) (e : Tree) (stay : Prog) (q : Seen → Prog) →
      run set ev (Look s (λ it. access_or it.shared kind e stay (marked it.shared (q it)))) st
      ≡ run set ev (sent_or sent e stay (q (seen set.names st.definitions s))) st'

-- `access` leads to an access that is sent, or to what follows it
pub record Uses (set : Setting) (access : Tree → Prog → Prog → Prog) (st : State) (sent : Bool) (st' : State) : Type 0 where
  pub by : (ev : Evaluator) (e : Tree) (stay p : Prog) → run set ev (access e stay p) st ≡ run set ev (sent_or sent e stay p) st'

-- the same of a call of a head, after which its rules and its row follow
pub record Accesses (set : Setting) (head : Tree) (st : State) (sent : Bool) (st' : State) : Type 0 where
  pub by : (ev : Evaluator) (items : List Tree) (e : Tree) (rest : Prog) →
      run set ev (down_rules set.names head items e rest) st
      ≡ run set ev (sent_or sent e rest (head_rules set.names st.definitions head items e (head_row set.names head items e rest))) st'

-- a look at a symbol, whose use is marked
pub record Sees (set : Setting) (s : Sym) (st st' : State) : Type 0 where
  pub by : (ev : Evaluator) (q : Seen → Prog) → run set ev (Look s (λ it. marked it.shared (q it))) st ≡ run set ev (q (seen set.names st.definitions s)) st'

pub record IsWithin (head : Tree) (items : List Tree) : Type 0 where
  pub small : size (call head items) ≤ 4000000
  pub shallow : depth (call head items) ≤ 512

-- one pass, and whether its value goes on, which it had where the same section was open
abbrev pub TurnedBy : {S : Type 0} → Step S → Setting → ℕ → ℕ → Tree → S → State → Result (Option Tree) Exit → State → S → Type 0
TurnedBy step set n m e s st (Ok None) st' z = Settled step set n m e s st (Ok e) st' z
TurnedBy step set n m e s st (Ok (Some v)) st' z =
    (0 < m) × (Passed step set n m e s st (m - 1) v st' z × ((t : State) × (Played step set n (pass set.names e) s st (Ok v) t z × (t.open_section ≡ st'.open_section))))
TurnedBy step set n m e s st (Err x) st' z = Settled step set n m e s st (Err x) st' z

pub record Turned {S : Type 0} (step : Step S) (set : Setting) (n m : ℕ) (e : Tree) (s : S) (st : State) (r : Result (Option Tree) Exit) (st' : State) (z : S) : Type 0 where
  pub by : TurnedBy step set n m e s st r st' z
