-- What an evaluation can do besides computing: a pass, a row of the built-in table and the trial of a rule are programs over these few effects.
-- A program says nothing of the definitions, limits, mode and calls that it meets; `Play` gives it its meaning.
--     Mode                  a cell, an item, or the service of an access
--     Request, Call         what a row asks of the outside; a call of the outside, to which sections add two
--     Local, Seen           a symbol with its new value; what a program sees of a symbol
--     Prog                  a program
use Rattle.std.specs.Prelude.{ℕ, List, [], ◌∷◌, Option}
use Rattle.expr_tree.specs.declared.sym.Sym.{Sym}
use Rattle.expr_tree.specs.Tree.{Tree}
use Rattle.semantics.specs.Definitions.{Definition, Share}
use Rattle.expr_tree.specs.declared.limits.Stop.{Stop}

pub data Mode : Type 0 where
  Cell Item Service : Mode

-- what a row asks of the outside
pub data Request : Type 0 where
  Access : Tree → Request
  Count : Request
  Print : List ℕ → Request
  Outside : Tree → Request

-- a section makes the other two calls
pub data Call : Type 0 where
  Sends : Request → Call
  Enter : List Sym → Call
  Leave : Call

-- a local of a Block, with its new value
pub record Local : Type 0 where
  pub symbol : Sym
  pub value : Option Tree

-- what a program sees of a symbol
pub record Seen : Type 0 where
  pub definition : Definition
  pub shared : Option Share

pub data Prog : Type 0 where
  -- the result; a stop; the end of the kernel
  Done : Tree → Prog
  Stops : Stop → Prog
  Quits : Prog
  -- the pass throws a value
  Throws : Tree → Prog
  -- evaluate an expression one deeper, and go on with its value
  Ask : Tree → (Tree → Prog) → Prog
  -- the same, and what it throws is its value
  Catches : Tree → (Tree → Prog) → Prog
  -- the same with locals put by, and put back however it ends
  Within : List Local → Tree → (Tree → Prog) → Prog
  -- the same inside a section with these locks, which is left however it ends; inside another section without a call, where that holds
  -- all the locks, and else $Failed
  Section : List Sym → Tree → (Tree → Prog) → Prog
  -- the locks of the open section, if one is open
  Open : (Option (List Sym) → Prog) → Prog
  -- read the definition of a symbol; write it; take the module number, which grows by one
  Look : Sym → (Seen → Prog) → Prog
  Put : Sym → Definition → Prog → Prog
  Fresh : (ℕ → Prog) → Prog
  -- one step more is used
  Turn : Prog → Prog
  -- an expression that counts as a result for Size and Depth
  Check : Tree → Prog → Prog
  -- a call, answered by a value or a stop
  Outer : Request → (Tree → Prog) → Prog
  -- a row of the mode table, or a use of a shared symbol: mode and kernel matter from here on
  Moded : (Mode → ℕ → Prog) → Prog
  -- go on with the text of each value, as an Out line shows it
  Shown : ((Tree → List ℕ) → Prog) → Prog

-- the definitions of several symbols, in order
abbrev pub look_all : List Sym → (List (Sym × Definition) → Prog) → Prog
look_all [] k = k []
look_all (s ∷ ss) k = Look s (λ seen. look_all ss (λ rest. k ((s, seen.definition) ∷ rest)))
