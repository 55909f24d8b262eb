use Rattle.std.proofs.Common.{◌≡◌, ◌+◌, ◌*◌, ◌++◌, drop}
use Rattle.expr_tree.specs.Tree.{depth, depths, trees}
use Rattle.match_seq.specs.Heads.{matching, heads_of, told_of}
use Rattle.match_seq.proofs.source.+heads.Given as goal

abbrev pub decreases-add_heads : goal.decreases-add_heads
decreases-add_heads g l = 2 * depth l.pattern.now

abbrev pub decreases-add_heads_of : goal.decreases-add_heads_of
decreases-add_heads_of g l = 2 * depths (trees l.items.now) + 1

abbrev pub invariant-add_heads_of-loop-item : goal.invariant-add_heads_of-loop-item
invariant-add_heads_of-loop-item g l =
    l.hows ++ told_of (λ s. matching (g.A.AttrSource.told l.attrs s)) (heads_of (trees (drop l.item-index l.items)))
    ≡ l.initial.hows ++ told_of (λ s. matching (g.A.AttrSource.told l.attrs s)) (heads_of (trees l.items))
