use Rattle.std.proofs.Common.{◌≡◌, drop}
use Rattle.semantics.specs.Scoping.{symbols_in}
use Rattle.expr_lists.proofs.SymbolLists.{behind}
use Rattle.expr_lists.proofs.symbols.symbols_in.Given as goal

abbrev pub invariant-loop-item : goal.invariant-loop-item
invariant-loop-item l = behind l.symbols (symbols_in (drop l.item-index l.items)) ≡ symbols_in l.items
