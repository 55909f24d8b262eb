use Rattle.std.proofs.Common.{◌≡◌, length}
use Rattle.semantics.specs.Definitions.{look_up}
use Rattle.kernel_defs.specs.Chains.{listed, behind, without_first}
use Rattle.kernel_defs.proofs.chain.Chain.take.Given as goal

abbrev pub invariant-loop-entry : goal.invariant-loop-entry
invariant-loop-entry l =
    record {
      found : look_up (listed l.self) l.symbol ≡ look_up (listed l.initial.self) l.symbol;
      kept : behind (listed l.passed) (without_first (listed l.self) l.symbol) ≡ without_first (listed l.initial.self) l.symbol;
    }

abbrev pub decreases-loop-entry : goal.decreases-loop-entry
decreases-loop-entry l = length (listed l.self)
