use Rattle.std.proofs.Common.{◌≡◌, ◌++◌, drop}
use Rattle.semantics.specs.Scoping.{symbols_of}
use Rattle.frames_scope.specs.Reading.{locals_in}
use Rattle.frames_scope.proofs.reading.symbols_of.Given as goal

abbrev pub invariant-loop-local : goal.invariant-loop-local
invariant-loop-local l = l.symbols ++ symbols_of (locals_in (drop l.local-index l.locals)) ≡ symbols_of (locals_in l.locals)
