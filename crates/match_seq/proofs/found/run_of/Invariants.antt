use Rattle.std.proofs.Common.{◌≡◌, drop}
use Rattle.expr_tree.specs.Substitution.{value_of}
use Rattle.match_seq.proofs.found.run_of.Given as goal

abbrev pub invariant-loop-bound : goal.invariant-loop-bound
invariant-loop-bound l = value_of (drop l.bound-index l.bindings) l.symbol ≡ value_of l.bindings l.symbol
