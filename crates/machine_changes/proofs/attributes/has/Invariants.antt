use Rattle.std.proofs.Common.{◌≡◌, drop}
use Rattle.semantics.specs.Definitions.{has}
use Rattle.machine_changes.proofs.attributes.has.Given as goal

abbrev pub invariant-loop-other : goal.invariant-loop-other
invariant-loop-other l = has l.attribute (drop l.other-index l.names) ≡ has l.attribute l.names
