use Rattle.std.proofs.Common.{◌∙◌, ap, sym}
use Rattle.builtin_names.specs.Named.{names_in}
use Rattle.machine_outward.specs.declared.parallel_loop.LoopState.{LoopState}
use Rattle.machine_outward.proofs.Looping.{moves_on, walks_on, walks_fall, method_on}
use Rattle.machine_outward.proofs.parallel_loop.LoopState.step.Goals as goal

pub returns-in-Moves-clause-stepped : goal.returns-in-Moves-clause-stepped
returns-in-Moves-clause-stepped c = λ stay.
    moves_on (names_in c.args.scene.now.names.now) c.args.call.now c.args.self.now c.in-Parts.parts c.args.answer c.in-Some.value c.in_ok-next-in-Some.field-0 c.in-Moves.next stay c.in-Parts.is c.in-Some.is c.in-Moves.is (c.in_ok-next-in-Some.ensures.found c.args.call.now stay)

pub returns-in-Parts-2-clause-stepped : goal.returns-in-Parts-2-clause-stepped
returns-in-Parts-2-clause-stepped c = λ stay.
    walks_on (names_in c.args.scene.now.names.now) c.args.call.now c.args.self.now c.in-Parts.parts c.args.answer c.in-Some.value c.in_ok-next-in-Some.field-0 c.in-Parts-2.found stay c.in-Parts.is c.in-Some.is c.in-Parts-2.is (c.in_ok-next-in-Some.ensures.found c.args.call.now stay)
    (c.with_parts.ensures.stepped stay c.args.defs.now c.args.used.now)

pub returns-in-Parts-2-clause-falls : goal.returns-in-Parts-2-clause-falls
returns-in-Parts-2-clause-falls c = walks_fall c.args.self.now c.in-Parts.parts c.with_parts.result _ c.in-Parts.is c.with_parts.ensures.falls

pub returns-in-Some-answer-clause-stepped : goal.returns-in-Some-answer-clause-stepped
returns-in-Some-answer-clause-stepped c = λ stay.
    method_on (names_in c.args.scene.now.names.now) c.args.call.now c.args.self.now c.replace-parts.result c.args.answer c.in-Some-answer.value stay (c.in-Method.is ∙ ap LoopState.Method (sym c.replace-parts.ensures.value)) c.in-Some-answer.is
    (c.send.ensures.stepped stay c.args.defs.now c.args.used.now)
