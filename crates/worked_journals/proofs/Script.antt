-- Setups, entries and cells for the worked journals.
use Rattle.std.proofs.Common.{ℕ, zero, suc, ◌+◌, List, [], ◌∷◌, Option, Some, None}
use Rattle.std.specs.Prelude.{pos}
use Rattle.expr_tree.specs.declared.sym.Sym.{Sym}
use Rattle.expr_tree.specs.Tree.{Tree, integer, string, symbol}
use Rattle.semantics.specs.declared.builtin.Builtin.{Builtin}
use Rattle.semantics.specs.Builtin.{row_number, rows}
use Rattle.semantics.specs.Names.{Names, make, name}
use Rattle.expr_tree.specs.declared.limits.Limits.{Limits}
use Rattle.journal.specs.declared.event.Wait.{Wait}
use Rattle.journal.specs.declared.event.Event.{Event}
use Rattle.journal.specs.declared.event.Entry.{Entry}
use Rattle.journal.specs.declared.recover.Recover.{Recover}
use Rattle.journal.specs.Core.{Setup}
use Rattle.journal.specs.Run.{Reading, Reads}

abbrev pub row_at : List Builtin → ℕ → Option Builtin
row_at [] n = None
row_at (r ∷ rs) zero = Some r
row_at (r ∷ rs) (suc n) = row_at rs n

-- the rows stand first, in the table's order, and the names of the script after them
abbrev pub names : Names
names = record { place = row_number; role = row_at rows }

abbrev pub product_limits : Limits
product_limits = record { recursion = 256; iteration = 4096; steps = 1000000; size = 4000000; depth = 512 }

abbrev pub sym : ℕ → Tree
sym n = symbol (record { base = 1000 + n; number = 0 })

abbrev pub int : ℕ → Tree
int k = integer (pos k)

-- row[es], short
abbrev pub of : Builtin → List Tree → Tree
of row es = make names row es

abbrev pub list : List Tree → Tree
list es = of Builtin.List es

abbrev pub equals : Tree → Tree → Tree
equals s t = of Builtin.Set (s ∷ t ∷ [])

-- with so many kernels
abbrev pub setup : ℕ → Setup
setup kernels = record { names = names; shown = λ e. []; kernels = kernels; limits = product_limits; recovery = Recover.Retry }

abbrev pub by : ℕ → Event → Entry
by k event = record { kernel = k; event = event }

abbrev pub reads : List Tree → List Reading
reads [] = []
reads (e ∷ es) = Reads e ∷ reads es

abbrev pub n' : Tree
n' = sym 12

abbrev pub null' : Tree
null' = name names Builtin.Null

abbrev pub increment : Tree → Tree
increment e = of Builtin.Increment (e ∷ [])

abbrev pub share : Tree → Tree
share e = of Builtin.SetSharedVariable (e ∷ [])

abbrev pub submit : Tree → Tree
submit e = of Builtin.ParallelSubmit (e ∷ [])

abbrev pub wait_all : Tree → Tree
wait_all e = of Builtin.WaitAll (e ∷ [])

abbrev pub then : Tree → Tree → Tree
then e f = of Builtin.CompoundExpression (e ∷ f ∷ [])

-- a lost item is given up
abbrev pub abandoning : ℕ → Setup
abandoning kernels = record (setup kernels) { recovery = Recover.Abandon }

abbrev pub f' : Tree
f' = sym 3

abbrev pub x' : Tree
x' = sym 7

abbrev pub lock' : Sym
lock' = record { base = 1020; number = 0 }

abbrev pub failed' : Tree
failed' = name names Builtin.Failed

abbrev pub aborted' : Tree
aborted' = name names Builtin.Aborted

abbrev pub object : ℕ → Tree
object k = of Builtin.EvaluationObject (int k ∷ [])

-- CriticalSection[{lock}, e]
abbrev pub section : Tree → Tree
section e = of Builtin.CriticalSection (list (symbol lock' ∷ []) ∷ e ∷ [])

-- Method -> t
abbrev pub method : List ℕ → Tree
method t = of Builtin.Rule (name names Builtin.Method ∷ string t ∷ [])

-- ParallelEvaluate[$KernelID]
unfoldable pub everywhere : List Reading
everywhere = reads (of Builtin.ParallelEvaluate (name names Builtin.KernelID ∷ []) ∷ [])

-- kernel k reads x, and writes it
abbrev pub read : ℕ → ℕ → Entry
read k v = by k (Event.Access x' (int v))

abbrev pub write : ℕ → ℕ → Entry
write k v = by k (Event.Access (equals x' (int v)) (int v))

-- one item, which the stand-in evaluates without a call
abbrev pub alone_at : ℕ → Tree → List Entry
alone_at id v = by 0 (Event.Submit id) ∷ by 0 (Event.Yield (Wait.All (id ∷ []))) ∷ by 0 (Event.Take id) ∷ by 0 (Event.Deliver id v) ∷ by 0 Event.Resume ∷ []
