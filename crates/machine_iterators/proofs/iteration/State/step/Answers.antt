use Rattle.builtin_names.specs.Named.{names_in}
use Rattle.machine_iterators.proofs.Stepping.{moves_on, walks_on, walks_fall}
use Rattle.machine_iterators.proofs.iteration.State.step.Goals as goal

pub returns-in-Moves-clause-stepped : goal.returns-in-Moves-clause-stepped
returns-in-Moves-clause-stepped c = λ stay.
    moves_on (names_in c.args.scene.now.names.now) c.args.body.now c.args.self.now c.in-Asking.parts c.args.answer c.in-Some.value c.in_ok-next-in-Some.field-0 c.in-Moves.next stay
    c.in-Asking.is c.in-Some.is c.in-Moves.is (c.in_ok-next-in-Some.ensures.found stay)

pub returns-in-Values-clause-stepped : goal.returns-in-Values-clause-stepped
returns-in-Values-clause-stepped c = λ stay.
    walks_on (names_in c.args.scene.now.names.now) c.args.body.now c.args.self.now c.in-Asking.parts c.args.answer c.in-Some.value c.in_ok-next-in-Some.field-0 c.in-Values.values stay
    c.in-Asking.is c.in-Some.is c.in-Values.is (c.in_ok-next-in-Some.ensures.found stay) (c.take_turns.ensures.stepped stay c.args.defs.now c.args.used.now)

pub returns-in-Values-clause-falls : goal.returns-in-Values-clause-falls
returns-in-Values-clause-falls c =
    walks_fall c.args.self.now c.in-Asking.parts c.in_ok-next-in-Some.field-0 c.in-Values.values c.take_turns.result _ _ _ c.in-Asking.is c.in-Values.is c.in_ok-next-in-Some.ensures.fewer c.take_turns.ensures.falls
