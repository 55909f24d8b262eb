use Rattle.std.proofs.Common.{◌∙◌, sym, ap}
use Rattle.frames_control.proofs.Turns.{moved_as}
use Rattle.builtin_names.specs.Named.{names_in}
use Rattle.frames_control.specs.TurnForms.{left_select}
use Rattle.frames_control.proofs.Turns.{rejected}
use Rattle.frames_control.proofs.select.Select.step.Goals as goal

pub returns-clause-moved : goal.returns-clause-moved
returns-clause-moved c =
    moved_as
    (ap (left_select (names_in c.args.names.now) c.args.self.now) c.in-Some.is ∙ rejected (names_in c.args.names.now) c.args.self.now c.in-Some.truth (sym c.is_name.ensures ∙ c.if-is_name.false))
    c.reject.ensures.moved
