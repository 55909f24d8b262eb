use Rattle.std.proofs.Common.{◌≡◌, take}
use Rattle.match_seq.proofs.found.copy_bindings.Given as goal

abbrev pub invariant-loop-symbol : goal.invariant-loop-symbol
invariant-loop-symbol l = l.copies ≡ take l.symbol-index l.bindings
