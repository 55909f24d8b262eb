use Rattle.std.proofs.Common.{◌≡◌, ◌++◌, drop, length, map}
use Rattle.kernel_defs.specs.Chains.{listed}
use Rattle.kernel_defs.proofs.defs.copies_of.Given as goal

abbrev pub invariant-loop-chain : goal.invariant-loop-chain
invariant-loop-chain l =
    record {
      len : length l.copies.items ≡ l.chain-index;
      same : map listed l.copies.items ++ map listed (drop l.chain-index l.chains) ≡ map listed l.chains;
    }
