use Rattle.std.proofs.Common.{◌≡◌, drop}
use Rattle.semantics.specs.Steps.{first_length}
use Rattle.builtin_names.specs.Named.{names_in}
use Rattle.attr_steps.proofs.threading.first_length.Given as goal

abbrev pub invariant-loop-item : goal.invariant-loop-item
invariant-loop-item l = first_length (names_in l.names) (drop l.item-index l.items) ≡ first_length (names_in l.names) l.items
