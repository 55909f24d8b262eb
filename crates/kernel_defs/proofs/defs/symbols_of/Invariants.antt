use Rattle.std.proofs.Common.{◌≡◌, ◌++◌, drop}
use Rattle.kernel_defs.proofs.defs.symbols_of.Given as goal

abbrev pub invariant-loop-symbol : goal.invariant-loop-symbol
invariant-loop-symbol l = l.copies ++ drop l.symbol-index l.symbols ≡ l.symbols
