use Rattle.std.proofs.Common.{◌≡◌, ◌++◌, ◌≤◌, ◌-◌, map}
use Rattle.expr_tree.specs.Tree.{depths, sizes, trees}
use Rattle.semantics.specs.Lists.{columns}
use Rattle.semantics.specs.Names.{items_of}
use Rattle.builtin_names.specs.Named.{names_in}
use Rattle.rows_parts.proofs.transposed.columns.Given as goal

-- the columns so far, and those that are left, which are no larger and no deeper than all
abbrev pub invariant-loop-place : goal.invariant-loop-place
invariant-loop-place l =
    let rest = columns (names_in l.names) l.place (l.width - l.place) (map items_of l.rows) in
    let whole = columns (names_in l.names) 0 l.width (map items_of l.rows) in
    record {
      joined : l.made ++ rest ≡ whole;
      no_larger : sizes (trees rest) ≤ sizes (trees whole);
      no_deeper : depths (trees rest) ≤ depths (trees whole);
    }
