use Rattle.std.proofs.Common.{◌≡◌, drop}
use Rattle.semantics.specs.Assign.{first_protected}
use Rattle.builtin_names.specs.Named.{names_in}
use Rattle.kernel_defs.specs.Assigned.{protected_in}
use Rattle.kernel_defs.proofs.defs.Defs.first_protected.Given as goal

abbrev pub invariant-loop-symbol : goal.invariant-loop-symbol
invariant-loop-symbol l = first_protected (protected_in (names_in l.names) l.self) (drop l.symbol-index l.symbols) ≡ first_protected (protected_in (names_in l.names) l.self) l.symbols
