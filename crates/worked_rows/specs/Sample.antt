-- Words for worked rows: names, expressions, cells and outcomes.
--     names                 the rows' names stand first, in the table's order, and the names of a script from 1000 on
--     cells                 the outcomes of the cells of a script, each with the definitions that the one before left
--     value, stopped        a cell that has a value; a cell that a limit stopped
--     of                    row[items], by the row's name in the table
use Rattle.std.specs.Prelude.{ℕ, zero, suc, ◌+◌, pos, negsuc, List, [], ◌∷◌, Option, Some, None}
use Rattle.expr_tree.specs.declared.sym.Sym.{Sym}
use Rattle.expr_tree.specs.declared.limits.Limits.{Limits}
use Rattle.expr_tree.specs.declared.limits.Stop.{Stop}
use Rattle.expr_tree.specs.Tree.{Tree, integer, symbol, call}
use Rattle.semantics.specs.declared.builtin.Builtin.{Builtin}
use Rattle.semantics.specs.Builtin.{row_number, rows}
use Rattle.semantics.specs.Names.{Names, name, make}
use Rattle.semantics.specs.Definitions.{Definitions, empty}
use Rattle.semantics.specs.Program.{Mode, Cell, Item}
use Rattle.semantics.specs.Play.{Setting, Value, Stopped}
use Rattle.semantics.specs.Eval.{Outcome, Ended, eval}

abbrev pub row_at : List Builtin → ℕ → Option Builtin
row_at [] n = None
row_at (r ∷ rs) zero = Some r
row_at (r ∷ rs) (suc n) = row_at rs n

abbrev pub names : Names
names = record { place = row_number; role = row_at rows }

-- ---- settings and cells

abbrev pub usual : Limits
usual = record { recursion = 256; iteration = 4096; steps = 1000000; size = 4000000; depth = 512 }

-- Print shows a value as one question mark
abbrev pub setting : Mode → ℕ → Limits → Setting
setting mode kernel limits = record { names = names; shown = λ e. 63 ∷ []; mode = mode; kernel = kernel; limits = limits }

abbrev pub in_cell : Limits → Setting
in_cell limits = setting Cell 0 limits

-- in an item on kernel 3
abbrev pub in_item : Setting
in_item = setting Item 3 usual

abbrev pub script_in : Limits → List Tree → Definitions → List Outcome
script_in limits [] d = []
script_in limits (e ∷ es) d = let r = eval (in_cell limits) d e [] in r.outcome ∷ script_in limits es r.definitions

abbrev pub cells : List Tree → List Outcome
cells es = script_in usual es empty

abbrev pub cells_in : Limits → List Tree → List Outcome
cells_in limits es = script_in limits es empty

-- ---- outcomes

abbrev pub value : Tree → Outcome
value e = Ended (Value e)

abbrev pub stopped : Stop → Outcome
stopped c = Ended (Stopped c)

abbrev pub symbol_of_row : Builtin → Tree
symbol_of_row row = name names row

abbrev pub null : Outcome
null = value (symbol_of_row Builtin.Null)

abbrev pub failed : Outcome
failed = value (symbol_of_row Builtin.Failed)

-- ---- names of a script

abbrev pub sym : ℕ → Sym
sym n = record { base = 1000 + n; number = 0 }

-- the symbol that Module makes of a name with a number
abbrev pub made : ℕ → ℕ → Tree
made n m = symbol (record { base = 1000 + n; number = m })

abbrev pub a' : Tree
a' = symbol (sym 0)

abbrev pub b' : Tree
b' = symbol (sym 1)

abbrev pub c' : Tree
c' = symbol (sym 2)

abbrev pub f' : Tree
f' = symbol (sym 3)

abbrev pub g' : Tree
g' = symbol (sym 4)

abbrev pub h' : Tree
h' = symbol (sym 5)

abbrev pub r' : Tree
r' = symbol (sym 6)

abbrev pub x' : Tree
x' = symbol (sym 7)

abbrev pub y' : Tree
y' = symbol (sym 8)

abbrev pub fac' : Tree
fac' = symbol (sym 9)

abbrev pub area' : Tree
area' = symbol (sym 10)

abbrev pub sq' : Tree
sq' = symbol (sym 11)

abbrev pub n' : Tree
n' = symbol (sym 12)

abbrev pub i' : Tree
i' = symbol (sym 13)

abbrev pub p' : Tree
p' = symbol (sym 14)

abbrev pub o' : Tree
o' = symbol (sym 15)

abbrev pub q' : Tree
q' = symbol (sym 16)

abbrev pub j' : Tree
j' = symbol (sym 17)

abbrev pub s' : Tree
s' = symbol (sym 18)

abbrev pub t' : Tree
t' = symbol (sym 19)

abbrev pub m' : Tree
m' = symbol (sym 20)

abbrev pub k' : Tree
k' = symbol (sym 21)

abbrev pub e' : Tree
e' = symbol (sym 22)

abbrev pub l' : Tree
l' = symbol (sym 23)

abbrev pub w' : Tree
w' = symbol (sym 24)

abbrev pub lock' : Tree
lock' = symbol (sym 25)

abbrev pub v' : Tree
v' = symbol (sym 26)

abbrev pub u' : Tree
u' = symbol (sym 27)

abbrev pub z' : Tree
z' = symbol (sym 28)

-- ---- expressions

abbrev pub int : ℕ → Tree
int n = integer (pos n)

abbrev pub minus : ℕ → Tree
minus zero = integer (pos 0)
minus (suc n) = integer (negsuc n)

abbrev pub of : Builtin → List Tree → Tree
of row es = make names row es

-- f[e]
abbrev pub apply : Tree → Tree → Tree
apply f e = call f (e ∷ [])

abbrev pub list : List Tree → Tree
list es = of Builtin.List es

abbrev pub items : List ℕ → List Tree
items [] = []
items (n ∷ ns) = int n ∷ items ns

-- a List of integers
abbrev pub numbers : List ℕ → Tree
numbers ns = list (items ns)

abbrev pub plus : Tree → Tree → Tree
plus a b = of Builtin.Plus (a ∷ b ∷ [])

abbrev pub times : Tree → Tree → Tree
times a b = of Builtin.Times (a ∷ b ∷ [])

abbrev pub equals : Tree → Tree → Tree
equals a b = of Builtin.Set (a ∷ b ∷ [])

abbrev pub delayed : Tree → Tree → Tree
delayed a b = of Builtin.SetDelayed (a ∷ b ∷ [])

abbrev pub replacing : Tree → Tree → Tree
replacing a b = of Builtin.ReplaceAll (a ∷ b ∷ [])

abbrev pub rule : Tree → Tree → Tree
rule a b = of Builtin.Rule (a ∷ b ∷ [])

abbrev pub condition : Tree → Tree → Tree
condition a b = of Builtin.Condition (a ∷ b ∷ [])

-- x_, x__ and x___
abbrev pub blank : Tree → Tree
blank x = of Builtin.Pattern (x ∷ of Builtin.Blank [] ∷ [])

abbrev pub blanks : Tree → Tree
blanks x = of Builtin.Pattern (x ∷ of Builtin.BlankSequence [] ∷ [])

abbrev pub some_blanks : Tree → Tree
some_blanks x = of Builtin.Pattern (x ∷ of Builtin.BlankNullSequence [] ∷ [])
