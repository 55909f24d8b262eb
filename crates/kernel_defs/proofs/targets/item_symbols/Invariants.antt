use Rattle.std.proofs.Common.{◌≡◌, drop}
use Rattle.semantics.specs.Assign.{item_symbols}
use Rattle.kernel_defs.proofs.targets.item_symbols.Given as goal

abbrev pub invariant-loop-item : goal.invariant-loop-item
invariant-loop-item l = item_symbols (drop l.item-index l.items) l.symbols ≡ item_symbols l.items l.fn.symbols
