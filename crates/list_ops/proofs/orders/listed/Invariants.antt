use Rattle.std.proofs.Common.{◌≡◌, drop}
use Rattle.semantics.specs.Lists.{all_lists}
use Rattle.builtin_names.specs.Named.{names_in}
use Rattle.list_ops.proofs.Distinct.{with_lists}
use Rattle.list_ops.proofs.orders.listed.Given as goal

abbrev pub invariant-loop-item : goal.invariant-loop-item
invariant-loop-item l = with_lists (names_in l.names) l.made (drop l.item-index l.items) ≡ all_lists (names_in l.names) l.items
