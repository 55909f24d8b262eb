use Rattle.std.proofs.Common.{◌≡◌, [], drop}
use Rattle.semantics.specs.Assign.{item_symbols}
use Rattle.semantics.specs.Definitions.{is_empty}
use Rattle.kernel_defs.proofs.refusal.have_no_symbol.Given as goal

abbrev pub invariant-loop-item : goal.invariant-loop-item
invariant-loop-item l = is_empty (item_symbols (drop l.item-index l.items) []) ≡ is_empty (item_symbols l.items [])
