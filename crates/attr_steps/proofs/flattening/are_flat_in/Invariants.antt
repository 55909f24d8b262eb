use Rattle.std.proofs.Common.{◌≡◌, drop}
use Rattle.semantics.specs.Steps.{flatten}
use Rattle.attr_steps.proofs.flattening.are_flat_in.Given as goal

abbrev pub invariant-loop-item : goal.invariant-loop-item
invariant-loop-item l = flatten l.head (drop l.item-index l.items) ≡ drop l.item-index l.items → flatten l.head l.items ≡ l.items
