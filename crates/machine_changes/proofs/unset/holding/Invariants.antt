use Rattle.std.proofs.Common.{◌≡◌, ◌++◌, drop}
use Rattle.std.specs.List.{filter}
use Rattle.semantics.specs.Changes.{holds}
use Rattle.semantics.specs.Definitions.{definition_of}
use Rattle.builtin_names.specs.Named.{names_in}
use Rattle.machine_changes.proofs.unset.holding.Given as goal

abbrev pub invariant-loop-symbol : goal.invariant-loop-symbol
invariant-loop-symbol l =
    l.held ++ filter (λ s. holds l.left (definition_of (names_in l.scene.names.now) l.defs s)) (drop l.symbol-index l.symbols)
    ≡ filter (λ s. holds l.left (definition_of (names_in l.scene.names.now) l.defs s)) l.symbols
