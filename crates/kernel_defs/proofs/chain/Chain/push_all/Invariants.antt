use Rattle.std.proofs.Common.{◌≡◌, length}
use Rattle.kernel_defs.specs.Chains.{listed, behind}
use Rattle.kernel_defs.proofs.chain.Chain.push_all.Given as goal

abbrev pub invariant-loop-entry : goal.invariant-loop-entry
invariant-loop-entry l = behind (listed l.passed) (listed l.self) ≡ behind (listed l.initial.passed) (listed l.initial.self)

abbrev pub decreases-loop-entry : goal.decreases-loop-entry
decreases-loop-entry l = length (listed l.passed)
