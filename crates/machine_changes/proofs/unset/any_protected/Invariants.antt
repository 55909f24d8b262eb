use Rattle.std.proofs.Common.{◌≡◌, drop}
use Rattle.semantics.specs.Changes.{any_protected}
use Rattle.builtin_names.specs.Named.{names_in}
use Rattle.kernel_defs.proofs.Runs.{seen_all}
use Rattle.machine_changes.proofs.unset.any_protected.Given as goal

abbrev pub invariant-loop-symbol : goal.invariant-loop-symbol
invariant-loop-symbol l =
    any_protected (seen_all (names_in l.scene.names.now) l.defs (drop l.symbol-index l.symbols)) ≡ any_protected (seen_all (names_in l.scene.names.now) l.defs l.symbols)
