use Rattle.std.proofs.Common.{sym, ◌∙◌}
use Rattle.builtin_names.specs.Named.{names_in}
use Rattle.frames_scope.proofs.Machines.{block_asked, block_entered, block_ends, block_null}
use Rattle.frames_scope.proofs.block_form.Block.step.Goals as goal

pub returns-in-Some-clause-moved : goal.returns-in-Some-clause-moved
returns-in-Some-clause-moved c =
    λ limits. block_asked limits (names_in c.args.names.now) c.args.self.now c.in-Values.asking c.next.new.self c.in-Values.body c.args.answer c.in-Some.question
    (sym c.replace.ensures.value ∙ c.in-Values.is) (rw c.in-Some.is at c.in_ok-question-in-Values.ensures.goes)

pub returns-in-None-clause-moved : goal.returns-in-None-clause-moved
returns-in-None-clause-moved c =
    λ limits. block_entered limits (names_in c.args.names.now) c.args.self.now c.replace.new.dest c.in-Values.asking c.next.new.self c.in-Values.body c.finish.result c.args.answer
    (sym c.replace.ensures.value ∙ c.in-Values.is) c.replace.ensures.after c.finish.ensures (rw c.in-None.is at c.in_ok-question-in-Values.ensures.goes)

pub returns-in-Some-answer-clause-moved : goal.returns-in-Some-answer-clause-moved
returns-in-Some-answer-clause-moved c =
    λ limits. block_ends limits (names_in c.args.names.now) c.args.self.now c.args.answer c.in-Some-answer.value _ (sym c.replace.ensures.value ∙ c.in-Body.is) c.in-Some-answer.is

pub returns-in-None-answer-clause-moved : goal.returns-in-None-answer-clause-moved
returns-in-None-answer-clause-moved c =
    λ limits. block_null limits (names_in c.args.names.now) c.args.self.now c.args.answer c.name.result _ (sym c.replace.ensures.value ∙ c.in-Body.is) c.in-None-answer.is c.name.ensures
