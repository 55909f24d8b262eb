use Rattle.std.proofs.Common.{◌≡◌}
use Rattle.kernel_defs.specs.Chains.{listed, behind}
use Rattle.kernel_defs.proofs.chain.Chain.copy.Given as goal

abbrev pub invariant-loop-at : goal.invariant-loop-at
invariant-loop-at l = behind (listed l.passed) (listed l.at) ≡ listed l.fn.self
