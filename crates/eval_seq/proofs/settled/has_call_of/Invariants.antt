use Rattle.std.proofs.Common.{◌≡◌, drop}
use Rattle.semantics.specs.Steps.{flatten}
use Rattle.eval_seq.proofs.settled.has_call_of.Given as goal

abbrev pub invariant-loop-item : goal.invariant-loop-item
invariant-loop-item l =
    flatten l.head (drop l.item-index l.items) ≡ drop l.item-index l.items → flatten l.head l.items ≡ l.items
