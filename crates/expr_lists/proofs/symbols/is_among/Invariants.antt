use Rattle.std.proofs.Common.{◌≡◌, drop}
use Rattle.expr_tree.specs.Substitution.{among}
use Rattle.expr_lists.proofs.symbols.is_among.Given as goal

abbrev pub invariant-loop-other : goal.invariant-loop-other
invariant-loop-other l = among l.symbol (drop l.other-index l.symbols) ≡ among l.symbol l.symbols
