use Rattle.std.proofs.Common.{◌≡◌, drop}
use Rattle.expr_tree.specs.Substitution.{symbols_by}
use Rattle.substitution.specs.Members.{member_symbol}
use Rattle.substitution.proofs.Members.{behind}
use Rattle.substitution.proofs.scope.bound_by.Given as goal

abbrev pub invariant-loop-item : goal.invariant-loop-item
invariant-loop-item l =
    behind l.bound (symbols_by (member_symbol l.binders l.members) (drop l.item-index l.items)) ≡ symbols_by (member_symbol l.binders l.members) l.items
