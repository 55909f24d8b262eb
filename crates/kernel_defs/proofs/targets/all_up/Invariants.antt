use Rattle.std.proofs.Common.{◌≡◌, take, map}
use Rattle.semantics.specs.Assign.{Up}
use Rattle.kernel_defs.specs.Targets.{target_of}
use Rattle.kernel_defs.proofs.targets.all_up.Given as goal

abbrev pub invariant-loop-symbol : goal.invariant-loop-symbol
invariant-loop-symbol l = map target_of l.targets ≡ map (λ s. record { symbol = s; place = Up }) (take l.symbol-index l.symbols)
