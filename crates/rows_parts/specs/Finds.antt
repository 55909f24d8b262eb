-- What looking for parts may answer.
--     Finds, FindsAll       the part, or the parts, or that there are none; or that what is there is too large
--     MakesShallow          an expression that is not too deep
--     picked, at_index      the parts at numbers, each of them looked at further; the part at one
use Rattle.std.specs.Prelude.{◌≡◌, ◌<◌, List, Option, Some, None, Result, Ok, Err}
use Rattle.expr_tree.specs.Tree.{Tree, integer, trees, size, sizes}
use Rattle.expr_tree.specs.declared.built.Built.{Built}
use Rattle.expr_tree.specs.declared.built.Built.TheVariants.{TooLarge, TooDeep, NoMemory}
use Rattle.semantics.specs.Lists.{part_at, parts_at, each}

abbrev pub picked : (Tree → Option Tree) → Tree → List Tree → Option (List Tree)
picked f e ns = elim (parts_at e ns) [ None ↦ None | Some fs ↦ each f fs ]

-- the part that one index names, looked at further
abbrev pub at_index : (Tree → Option Tree) → Tree → Tree → Option Tree
at_index f e (integer n) = elim (part_at e n) [ None ↦ None | Some p ↦ f p ]
at_index f e _ = None

-- no part is deeper than the expression
abbrev pub FindsBy : Option Tree → Result (Option Tree) Built → Type 0
FindsBy o (Ok found) = found ≡ o
FindsBy o (Err TooLarge) = (t : Tree) → o ≡ Some t → 4000000 < size t
FindsBy o (Err (TooDeep nodes)) = ⊥
FindsBy o (Err NoMemory) = Unit {0}

pub record Finds (o : Option Tree) (r : Result (Option Tree) Built) : Type 0 where
  pub by : FindsBy o r

abbrev pub FindsAllBy : Option (List Tree) → Result (Option (List Tree)) Built → Type 0
FindsAllBy o (Ok found) = found ≡ o
FindsAllBy o (Err TooLarge) = (ts : List Tree) → o ≡ Some ts → 4000000 < sizes (trees ts)
FindsAllBy o (Err (TooDeep nodes)) = ⊥
FindsAllBy o (Err NoMemory) = Unit {0}

pub record FindsAll (o : Option (List Tree)) (r : Result (Option (List Tree)) Built) : Type 0 where
  pub by : FindsAllBy o r

abbrev pub MakesShallowBy : Tree → Result Tree Built → Type 0
MakesShallowBy t (Ok e) = e ≡ t
MakesShallowBy t (Err TooLarge) = 4000000 < size t
MakesShallowBy t (Err (TooDeep nodes)) = ⊥
MakesShallowBy t (Err NoMemory) = Unit {0}

pub record MakesShallow (t : Tree) (r : Result Tree Built) : Type 0 where
  pub by : MakesShallowBy t r
