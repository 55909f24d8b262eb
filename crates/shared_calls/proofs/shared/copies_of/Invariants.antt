use Rattle.std.proofs.Common.{◌≡◌, ◌++◌, drop}
use Rattle.shared_calls.proofs.shared.copies_of.Given as goal

abbrev pub invariant-loop-symbol : goal.invariant-loop-symbol
invariant-loop-symbol l = l.copies.items ++ drop l.symbol-index l.symbols ≡ l.symbols
