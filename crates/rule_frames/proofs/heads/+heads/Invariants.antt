use Rattle.std.proofs.Common.{◌≡◌, ◌+◌, ◌*◌, ◌++◌, drop}
use Rattle.expr_tree.specs.Tree.{depth, depths, trees}
use Rattle.semantics.specs.Match.{heads_in}
use Rattle.builtin_names.specs.Named.{names_in}
use Rattle.rule_frames.specs.Told.{told_of}
use Rattle.rule_frames.proofs.heads.+heads.Given as goal

abbrev pub decreases-add_heads : goal.decreases-add_heads
decreases-add_heads g l = 2 * depth l.pattern.now

abbrev pub decreases-add_heads_in : goal.decreases-add_heads_in
decreases-add_heads_in g l = 2 * depths (trees l.items.now) + 1

abbrev pub invariant-add_heads_in-loop-item : goal.invariant-add_heads_in-loop-item
invariant-add_heads_in-loop-item g l =
    l.symbols ++ told_of (g.A.AttrSource.told l.attrs) (heads_in (names_in l.names) (trees (drop l.item-index l.items)))
    ≡ l.initial.symbols ++ told_of (g.A.AttrSource.told l.attrs) (heads_in (names_in l.names) (trees l.items))
