use Rattle.std.proofs.Common.{◌∙◌, sym, ap}
use Rattle.frames_control.proofs.Shown.{shown}
use Rattle.frames_control.specs.TurnForms.{left_fixed_point}
use Rattle.frames_control.proofs.Turns.{fixed_done}
use Rattle.frames_control.proofs.fixed_point.FixedPoint.step.Goals as goal

pub returns-then-equals-clause-moved : goal.returns-then-equals-clause-moved
returns-then-equals-clause-moved c =
    shown (ap (left_fixed_point c.args.self.now) c.in-Some.is ∙ fixed_done c.args.self.now c.in-Some.value (sym c.equals.ensures ∙ c.if-equals.true))
