use Rattle.std.proofs.Common.{refl}
use Rattle.frames_scope.proofs.Machines.{module_asks, module_made}
use Rattle.frames_scope.proofs.module_form.Module.step.Goals as goal

pub returns-in-Some-clause-moved : goal.returns-in-Some-clause-moved
returns-in-Some-clause-moved c =
    λ limits names. module_asks limits names c.args.self.now (record { number = c.args.self.now.number; asking = c.next.new.self; body = c.args.self.now.body }) c.args.answer c.in-Some.question refl refl (rw c.in-Some.is at c.in_ok-question.ensures.goes)

pub returns-in-None-clause-moved : goal.returns-in-None-clause-moved
returns-in-None-clause-moved c =
    λ limits names. module_made limits names c.args.self.now c.next.new.self c.args.answer c.make_symbols.result _ (rw c.in-None.is at c.in_ok-question.ensures.goes) c.make_symbols.ensures
