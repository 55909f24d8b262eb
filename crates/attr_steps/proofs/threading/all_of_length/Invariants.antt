use Rattle.std.proofs.Common.{◌≡◌, drop}
use Rattle.semantics.specs.Steps.{all_of_length}
use Rattle.builtin_names.specs.Named.{names_in}
use Rattle.attr_steps.proofs.threading.all_of_length.Given as goal

abbrev pub invariant-loop-item : goal.invariant-loop-item
invariant-loop-item l =
    all_of_length (names_in l.names) l.length (drop l.item-index l.items) ≡ all_of_length (names_in l.names) l.length l.items
