use Rattle.std.proofs.Common.{◌∙◌, sym}
use Rattle.builtin_names.specs.Named.{names_in}
use Rattle.machine_outward.proofs.Moving.{shown, once_moves, once_gives, once_falls}
use Rattle.machine_outward.proofs.once.Once.step.Goals as goal

pub returns-in-Some-clause-stepped : goal.returns-in-Some-clause-stepped
returns-in-Some-clause-stepped c = λ stay d used.
    shown (once_moves (names_in c.args.scene.now.names.now) c.args.self.now.next c.take.new.self c.in-Some.next c.args.self.now.reply stay c.args.answer (sym c.take.ensures.value ∙ c.in-Some.is) c.take.ensures.after)

pub returns-in-None-clause-stepped : goal.returns-in-None-clause-stepped
returns-in-None-clause-stepped c = λ stay d used.
    once_gives (names_in c.args.scene.now.names.now) c.args.self.now.next c.take.new.self c.args.self.now.reply stay c.args.answer (sym c.take.ensures.value ∙ c.in-None.is) c.take.ensures.after (c.given.ensures.stepped stay d used)

pub returns-in-None-clause-falls : goal.returns-in-None-clause-falls
returns-in-None-clause-falls c = once_falls c.args.self.now.next c.take.new.self c.given.result (sym c.take.ensures.value ∙ c.in-None.is) c.take.ensures.after c.given.ensures.falls
