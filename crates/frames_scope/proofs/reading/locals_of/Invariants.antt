use Rattle.std.proofs.Common.{◌≡◌, drop}
use Rattle.semantics.specs.Scoping.{locals_of}
use Rattle.builtin_names.specs.Named.{names_in}
use Rattle.frames_scope.specs.Reading.{locals_in}
use Rattle.frames_scope.proofs.Readings.{joined}
use Rattle.frames_scope.proofs.reading.locals_of.Given as goal

abbrev pub invariant-loop-item : goal.invariant-loop-item
invariant-loop-item l = joined (locals_in l.locals) (locals_of (names_in l.names) (drop l.item-index l.items)) ≡ locals_of (names_in l.names) l.items
