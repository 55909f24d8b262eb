use Rattle.std.proofs.Common.{◌≡◌, drop}
use Rattle.semantics.specs.Steps.{has_wrapper}
use Rattle.builtin_names.specs.Named.{names_in}
use Rattle.attr_steps.proofs.stripping.has_wrapper.Given as goal

abbrev pub invariant-loop-item : goal.invariant-loop-item
invariant-loop-item l = has_wrapper (names_in l.names) (drop l.item-index l.items) ≡ has_wrapper (names_in l.names) l.items
