use Rattle.std.proofs.Common.{◌≡◌}
use Rattle.semantics.specs.Definitions.{look_up}
use Rattle.kernel_defs.specs.Chains.{listed}
use Rattle.kernel_defs.proofs.chain.Chain.find.Given as goal

abbrev pub invariant-loop-at : goal.invariant-loop-at
invariant-loop-at l = look_up (listed l.at) l.symbol ≡ look_up (listed l.fn.self) l.symbol
