use Rattle.std.proofs.Common.{◌≡◌, drop}
use Rattle.semantics.specs.Changes.{attribute_names}
use Rattle.builtin_names.specs.Named.{names_in}
use Rattle.machine_changes.specs.Named.{behind}
use Rattle.machine_changes.proofs.attributes.attribute_names.Given as goal

abbrev pub invariant-loop-item : goal.invariant-loop-item
invariant-loop-item l = behind l.found (attribute_names (names_in l.names) (drop l.item-index l.items)) ≡ attribute_names (names_in l.names) l.items
