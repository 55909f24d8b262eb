use Rattle.std.proofs.Common.{◌≡◌, drop}
use Rattle.journal.specs.Forms.{with_named}
use Rattle.kernel_sharing.proofs.sharing.with_named.Given as goal

abbrev pub invariant-loop-symbol : goal.invariant-loop-symbol
invariant-loop-symbol l = with_named (drop l.symbol-index l.symbols) l.named ≡ with_named l.symbols l.defs.named
