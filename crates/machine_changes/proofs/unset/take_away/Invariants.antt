use Rattle.std.proofs.Common.{◌≡◌, drop}
use Rattle.builtin_names.specs.Named.{names_in}
use Rattle.machine_changes.specs.Unsetting.{taken_away}
use Rattle.machine_changes.proofs.unset.take_away.Given as goal

abbrev pub invariant-loop-symbol : goal.invariant-loop-symbol
invariant-loop-symbol l =
    taken_away (names_in l.scene.names.now) l.left (drop l.symbol-index l.symbols) l.defs
    ≡ taken_away (names_in l.scene.names.now) l.left l.symbols l.initial.defs
