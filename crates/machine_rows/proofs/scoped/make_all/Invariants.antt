use Rattle.std.proofs.Common.{◌≡◌, drop}
use Rattle.builtin_names.specs.Named.{names_in}
use Rattle.frames_scope.specs.Reading.{locals_in}
use Rattle.machine_rows.specs.StepResults.{made_all}
use Rattle.machine_rows.proofs.scoped.make_all.Given as goal

abbrev pub invariant-loop-local : goal.invariant-loop-local
invariant-loop-local l = made_all (names_in l.scene.names.now) (locals_in (drop l.local-index l.locals)) l.defs ≡ made_all (names_in l.scene.names.now) (locals_in l.locals) l.initial.defs
