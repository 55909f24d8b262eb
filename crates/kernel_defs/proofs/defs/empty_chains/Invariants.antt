use Rattle.std.proofs.Common.{◌≡◌, length, map}
use Rattle.kernel_defs.specs.Chains.{listed}
use Rattle.kernel_defs.specs.Table.{AreEmpty}
use Rattle.kernel_defs.proofs.defs.empty_chains.Given as goal

abbrev pub invariant-loop-made : goal.invariant-loop-made
invariant-loop-made l = record { made : length l.chains.items ≡ l._made; empty : AreEmpty (map listed l.chains.items) }
