use Rattle.std.proofs.Common.{refl}
use Rattle.frames_control.proofs.Shown.{shown}
use Rattle.frames_control.proofs.Choosing.{item_asked}
use Rattle.builtin_names.specs.Named.{names_in}
use Rattle.frames_control.proofs.in_turn.InTurn.step.Goals as goal

pub returns-in-Some-clause-moved : goal.returns-in-Some-clause-moved
returns-in-Some-clause-moved c = item_asked (names_in c.args.names.now) c.args.self.now c.args.answer c.in-Some.ensures

pub returns-in-Some-answer-clause-moved : goal.returns-in-Some-answer-clause-moved
returns-in-Some-answer-clause-moved c = shown (rw (c.in-Some-answer.is, c.in-None.ensures.0) refl)

pub returns-in-None-answer-clause-moved : goal.returns-in-None-answer-clause-moved
returns-in-None-answer-clause-moved c = shown (rw (c.in-None-answer.is, c.in-None.ensures.0, c.name.ensures) refl)
