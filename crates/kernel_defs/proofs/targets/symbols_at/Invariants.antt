use Rattle.std.proofs.Common.{◌≡◌, take, map}
use Rattle.kernel_defs.proofs.targets.symbols_at.Given as goal

abbrev pub invariant-loop-target : goal.invariant-loop-target
invariant-loop-target l = l.symbols ≡ map (λ t. t.symbol) (take l.target-index l.targets)
