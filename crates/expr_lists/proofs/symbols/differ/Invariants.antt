use Rattle.std.proofs.Common.{◌≡◌, drop}
use Rattle.semantics.specs.Scoping.{differ}
use Rattle.expr_lists.proofs.symbols.differ.Given as goal

abbrev pub invariant-loop-i : goal.invariant-loop-i
invariant-loop-i l = differ (drop l.i l.symbols) ≡ differ l.symbols
