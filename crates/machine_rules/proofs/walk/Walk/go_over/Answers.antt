use Rattle.std.proofs.Common.{◌∙◌, refl}
use Rattle.rule_frames.specs.Reading.{same}
use Rattle.rule_frames.proofs.Shown.{shows_on}
use Rattle.machine_rules.proofs.Walking.{walks_after, passes_walks, passes_halts, passes_next}
use Rattle.machine_rules.proofs.walk.Walk.go_over.Goals as goal

pub loop-walked-init : goal.loop-walked-init
loop-walked-init c = record { goes = λ k. same; rules_stay = refl }

pub returns-in-Ok-Some-clause-goes : goal.returns-in-Ok-Some-clause-goes
returns-in-Ok-Some-clause-goes c = walks_after c.loop-walked.invariant.goes (passes_walks (rw c.in-Ok-Some.field-0-is at c.in-Ok-Some.ensures.goes))

pub loop-walked-preserved : goal.loop-walked-preserved
loop-walked-preserved c = record {
  goes = λ k. shows_on (c.loop-walked.invariant.goes k) (passes_next (rw c.in-Ok-None.field-0-is at c.in-Ok-None.ensures.goes) k);
  rules_stay = c.in-Ok-None.ensures.rules ∙ c.loop-walked.invariant.rules_stay;
}

pub returns-in-Err-clause-goes : goal.returns-in-Err-clause-goes
returns-in-Err-clause-goes c = walks_after c.loop-walked.invariant.goes (passes_halts c.in-Err.ensures.goes)
