use Rattle.std.proofs.Common.{◌≡◌, ◌++◌, drop}
use Rattle.semantics.specs.Steps.{splice}
use Rattle.builtin_names.specs.Named.{names_in}
use Rattle.attr_steps.proofs.splicing.splice.Given as goal

abbrev pub invariant-loop-item : goal.invariant-loop-item
invariant-loop-item l = l.spliced ++ splice (names_in l.names) (drop l.item-index l.fn.items) ≡ splice (names_in l.names) l.fn.items
