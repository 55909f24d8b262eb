use Rattle.std.proofs.Common.{◌≡◌, ◌≤◌, ◌+◌, ◌-◌, ◌*◌, drop, length}
use Rattle.expr_tree.specs.Tree.{sizes, trees}
use Rattle.semantics.specs.Lists.{part_of}
use Rattle.builtin_names.specs.Named.{names_in}
use Rattle.rows_parts.specs.Finds.{picked}
use Rattle.rows_parts.proofs.Picked.{behind}
use Rattle.rows_parts.proofs.parts.+pick.Given as goal

abbrev pub decreases-pick : goal.decreases-pick
decreases-pick l = 4 * (length l.indices.now - l.from)

abbrev pub decreases-pick_all : goal.decreases-pick_all
decreases-pick_all l = 4 * (length l.indices.now - l.from) + 3

abbrev pub decreases-pick_each : goal.decreases-pick_each
decreases-pick_each l = 4 * (length l.indices.now - l.from) + 2

abbrev pub decreases-pick_at : goal.decreases-pick_at
decreases-pick_at l = 4 * (length l.indices.now - l.from) + 1

abbrev pub invariant-pick_each-loop-number : goal.invariant-pick_each-loop-number
invariant-pick_each-loop-number l = record {
  whole : behind l.made (picked (part_of (names_in l.names) (drop l.from l.indices)) l.e (drop l.number-index l.numbers)) ≡ picked (part_of (names_in l.names) (drop l.from l.indices)) l.e l.numbers;
  total : l.nodes ≡ sizes (trees l.made);
  small : l.nodes ≤ 4000000;
}
