-- What putting in place may answer where an unchanged part is not made again.
--     Puts                  no expression where it stays as before, and else the new one; or why it cannot be made
--     PutsAll               the same of elements
--     MakesAfter            elements made after others
use Rattle.std.specs.Prelude.{◌≡◌, ◌<◌, ◌++◌, List, Option, Result, Ok, Err, unwrap_or}
use Rattle.expr_tree.specs.Tree.{Tree, Trees, elements, size, sizes, depth, depths}
use Rattle.expr_tree.specs.declared.built.Built.{Built}
use Rattle.expr_tree.specs.declared.built.Built.TheVariants.{TooLarge, TooDeep, NoMemory}

abbrev pub Puts : Tree → Tree → Result (Option Tree) Built → Type 0
Puts old t (Ok new) = unwrap_or new old ≡ t
Puts old t (Err TooLarge) = 4000000 < size t
Puts old t (Err (TooDeep nodes)) = 512 < depth t
Puts old t (Err NoMemory) = Unit {0}

abbrev pub PutsAll : List Tree → Trees → Result (Option (List Tree)) Built → Type 0
PutsAll old ts (Ok new) = unwrap_or new old ≡ elements ts
PutsAll old ts (Err TooLarge) = 4000000 < sizes ts
PutsAll old ts (Err (TooDeep nodes)) = 512 < depths ts
PutsAll old ts (Err NoMemory) = Unit {0}

abbrev pub MakesAfter : List Tree → Trees → Result (List Tree) Built → Type 0
MakesAfter made ts (Ok es) = es ≡ made ++ elements ts
MakesAfter made ts (Err TooLarge) = 4000000 < sizes ts
MakesAfter made ts (Err (TooDeep nodes)) = 512 < depths ts
MakesAfter made ts (Err NoMemory) = Unit {0}
