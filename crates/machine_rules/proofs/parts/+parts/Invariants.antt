use Rattle.std.proofs.Common.{◌≡◌, ◌+◌, ◌*◌, ◌++◌, drop}
use Rattle.expr_tree.specs.Tree.{depth, depths, trees}
use Rattle.machine_rules.specs.Parts.{parts_in}
use Rattle.machine_rules.proofs.parts.+parts.Given as goal

abbrev pub decreases-add_parts : goal.decreases-add_parts
decreases-add_parts l = 2 * depth l.e.now

abbrev pub decreases-add_parts_in : goal.decreases-add_parts_in
decreases-add_parts_in l = 2 * depths (trees l.items.now) + 1

abbrev pub invariant-add_parts_in-loop-item : goal.invariant-add_parts_in-loop-item
invariant-add_parts_in-loop-item l = l.found ++ parts_in (trees (drop l.item-index l.items)) ≡ l.initial.found ++ parts_in (trees l.items)
