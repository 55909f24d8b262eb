use Rattle.std.proofs.Common.{refl, Some}
use Rattle.machine_changes.proofs.Going.{goes_on}
use Rattle.machine_changes.proofs.Renewals.{falls_ended}
use Rattle.machine_changes.proofs.Sides.{phase_is}
use Rattle.machine_changes.proofs.assignment.Assignment.step.Goals as goal

pub returns-in-Before-clause-stepped : goal.returns-in-Before-clause-stepped
returns-in-Before-clause-stepped c = λ stay. goes_on _ (phase_is c.args.self.now _ c.args.answer c.args.answer c.in-Before.ensures.value refl) (c.begin.ensures.stepped stay)

pub returns-in-Some-clause-stepped : goal.returns-in-Some-clause-stepped
returns-in-Some-clause-stepped c = λ stay. goes_on _ (phase_is c.args.self.now _ c.args.answer (Some c.in-Some.head) c.in-Head.ensures.value c.in-Some.is) (c.with_head.ensures.stepped stay)

pub returns-in-Some-answer-clause-stepped : goal.returns-in-Some-answer-clause-stepped
returns-in-Some-answer-clause-stepped c =
    λ stay. goes_on _ (phase_is c.args.self.now _ c.args.answer (Some c.in-Some-answer.value) c.in-Items.ensures.value c.in-Some-answer.is) (c.with_item.ensures.stepped stay)

pub returns-in-Some-answer-2-clause-falls : goal.returns-in-Some-answer-2-clause-falls
returns-in-Some-answer-2-clause-falls c = falls_ended c.with_right.result _ _ c.with_right.ensures.falls
