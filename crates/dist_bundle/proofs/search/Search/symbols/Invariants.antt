use Rattle.std.proofs.Common.{◌≡◌, ◌++◌}
use Rattle.dist_bundle.proofs.search.Search.symbols.Given as goal

abbrev pub invariant-loop-symbol : goal.invariant-loop-symbol
invariant-loop-symbol l = l.symbols ++ l.symbol-iterator ≡ l.self.symbols
