use Rattle.std.proofs.Common.{◌≡◌, drop}
use Rattle.semantics.specs.Scoping.{bases_differ}
use Rattle.frames_scope.proofs.symbols.bases_differ.Given as goal

abbrev pub invariant-loop-i : goal.invariant-loop-i
invariant-loop-i l = bases_differ (drop l.i l.symbols) ≡ bases_differ l.symbols
