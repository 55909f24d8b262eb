use Rattle.std.proofs.Common.{◌≡◌, drop}
use Rattle.semantics.specs.Steps.{splice}
use Rattle.builtin_names.specs.Named.{names_in}
use Rattle.eval_seq.proofs.settled.has_sequence.Given as goal

abbrev pub invariant-loop-item : goal.invariant-loop-item
invariant-loop-item l =
    splice (names_in l.names) (drop l.item-index l.items) ≡ drop l.item-index l.items → splice (names_in l.names) l.items ≡ l.items
