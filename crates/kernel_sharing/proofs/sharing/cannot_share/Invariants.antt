use Rattle.std.proofs.Common.{◌≡◌, drop}
use Rattle.journal.specs.Forms.{cannot_share}
use Rattle.builtin_names.specs.Named.{names_in}
use Rattle.shared_calls.specs.View.{share_of}
use Rattle.kernel_sharing.proofs.sharing.cannot_share.Given as goal

abbrev pub invariant-loop-symbol : goal.invariant-loop-symbol
invariant-loop-symbol l = cannot_share (names_in l.names) l.defs (share_of l.kind) (drop l.symbol-index l.symbols) ≡ cannot_share (names_in l.names) l.defs (share_of l.kind) l.symbols
