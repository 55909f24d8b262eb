use Rattle.std.proofs.Common.{◌∙◌, sym, ap}
use Rattle.frames_control.proofs.Shown.{shown}
use Rattle.builtin_names.specs.Named.{names_in}
use Rattle.frames_control.specs.Choices.{left_connected}
use Rattle.frames_control.proofs.Choosing.{decided}
use Rattle.frames_control.proofs.connected.Connected.step.Goals as goal

pub returns-then-is_name-clause-moved : goal.returns-then-is_name-clause-moved
returns-then-is_name-clause-moved c =
    shown
    (ap (left_connected (names_in c.args.names.now) c.args.self.now) c.in-Some.is
    ∙ decided (names_in c.args.names.now) c.args.self.now c.in-Some.value (sym (rw c.ending.ensures at c.is_name.ensures) ∙ c.if-is_name.true))
