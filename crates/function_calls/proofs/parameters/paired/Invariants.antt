use Rattle.std.proofs.Common.{◌≡◌, drop}
use Rattle.semantics.specs.Scoping.{paired}
use Rattle.expr_lists.proofs.SymbolLists.{behind}
use Rattle.function_calls.proofs.parameters.paired.Given as goal

abbrev pub invariant-loop-i : goal.invariant-loop-i
invariant-loop-i l = behind l.bindings (paired (drop l.i l.symbols) (drop l.i l.args)) ≡ paired l.symbols l.args
