use Rattle.std.proofs.Common.{◌≡◌, drop}
use Rattle.semantics.specs.Scoping.{symbols_of}
use Rattle.frames_scope.specs.Reading.{locals_in}
use Rattle.machine_rows.specs.StepResults.{any_shared}
use Rattle.machine_rows.proofs.block_row.any_shared.Given as goal

abbrev pub invariant-loop-local : goal.invariant-loop-local
invariant-loop-local l = any_shared l.shared (symbols_of (locals_in (drop l.local-index l.locals))) ≡ any_shared l.shared (symbols_of (locals_in l.locals))
