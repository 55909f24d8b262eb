-- The limits of an expression: 4,000,000 atoms, and a depth of 512.
--     in_range              the integers of 128 bits
--     Assembles             what making an expression may answer: it, or that it is too large, or else too deep, or want of memory
--     Makes, MakesAll       the same without an order of the two limits, of an expression that is made from parts, and of elements
use Rattle.std.specs.Prelude.{◌≡◌, ◌<◌, ◌≤◌, ◌^◌, ℤ, pos, negsuc, Bool, ltb, List, Result, Ok, Err}
use Rattle.expr_tree.specs.Tree.{Tree, Trees, elements, size, sizes, depth, depths}
use Rattle.expr_tree.specs.declared.built.Built.{Built}
use Rattle.expr_tree.specs.declared.built.Built.TheVariants.{TooLarge, TooDeep, NoMemory}

abbrev pub in_range : ℤ → Bool
in_range (pos n) = ltb n (2 ^ 127)
in_range (negsuc n) = ltb n (2 ^ 127)

abbrev pub Assembles : Tree → Result Tree Built → Type 0
Assembles t (Ok e) = (e ≡ t) × (size t ≤ 4000000) × (depth t ≤ 512)
Assembles t (Err TooLarge) = 4000000 < size t
Assembles t (Err (TooDeep nodes)) = (nodes ≡ size t) × (size t ≤ 4000000) × (512 < depth t)
Assembles t (Err NoMemory) = Unit {0}

abbrev pub Makes : Tree → Result Tree Built → Type 0
Makes t (Ok e) = e ≡ t
Makes t (Err TooLarge) = 4000000 < size t
Makes t (Err (TooDeep nodes)) = 512 < depth t
Makes t (Err NoMemory) = Unit {0}

abbrev pub MakesAll : Trees → Result (List Tree) Built → Type 0
MakesAll ts (Ok es) = es ≡ elements ts
MakesAll ts (Err TooLarge) = 4000000 < sizes ts
MakesAll ts (Err (TooDeep nodes)) = 512 < depths ts
MakesAll ts (Err NoMemory) = Unit {0}
