use Rattle.std.proofs.Common.{◌≡◌, drop}
use Rattle.semantics.specs.Scoping.{has_base}
use Rattle.frames_scope.proofs.symbols.has_base.Given as goal

abbrev pub invariant-loop-symbol : goal.invariant-loop-symbol
invariant-loop-symbol l = has_base l.base (drop l.symbol-index l.symbols) ≡ has_base l.base l.symbols
