-- Expressions that are beyond the limits of an expression.
--     IsBeyond              it has more atoms than 4,000,000, or else is deeper than 512
--     IsWhole, AreWhole     a call, and elements, where they are there; else a call of them is beyond the limits
use Rattle.std.specs.Prelude.{◌≡◌, ◌≤◌, ◌<◌, List, Option, Some, None}
use Rattle.expr_tree.specs.Tree.{Tree, size, sizes, depth, depths, trees}

abbrev pub IsBeyond : Tree → Type 0
IsBeyond t = size t ≤ 4000000 → 512 < depth t

abbrev pub IsWhole : Tree → Option Tree → Type 0
IsWhole t (Some e) = e ≡ t
IsWhole t None = IsBeyond t

abbrev pub AreWhole : List Tree → Option (List Tree) → Type 0
AreWhole ts (Some es) = es ≡ ts
AreWhole ts None = sizes (trees ts) ≤ 4000000 → 512 < depths (trees ts)
