use Rattle.builtin_names.specs.Named.{names_in}
use Rattle.machine_rows.proofs.Falling.{with_steady}
use Rattle.machine_rows.proofs.with_row.step_with.Goals as goal

pub returns : goal.returns
returns c =
    let moved = c.step-moved.ensures.moved c.args.scene.now.limits (names_in c.args.scene.now.names.now) in
    record { stepped = λ stay used. c.scope_move.ensures.stepped _ stay used _ moved; falls = c.scope_move.ensures.falls _ _ moved (with_steady (names_in c.args.scene.now.names.now) c.step-moved.new.self) }
