use Rattle.std.proofs.Common.{◌≡◌, ◌∙◌, ap, sym, Some}
use Rattle.builtin_names.specs.Named.{names_in}
use Rattle.machine_changes.specs.Renewing.{renewed}
use Rattle.machine_changes.proofs.Going.{goes_on, same_program}
use Rattle.machine_changes.proofs.Renewals.{before_some, falls_ended}
use Rattle.machine_changes.proofs.renewal.Renewal.step.Goals as goal

pub returns-in-Some-answer-clause-stepped : goal.returns-in-Some-answer-clause-stepped
returns-in-Some-answer-clause-stepped c =
    let names = names_in c.args.scene.now.names.now in
    let f = c.args.self.now in
    let is : c.args.answer ≡ Some c.in-Some-answer.value = c.in-Some-answer.is in
    let before : f.before ≡ Some c.in-Some.old = sym c.in-Some.ensures.value in
    λ stay.
    goes_on _ (same_program (before_some names f c.args.answer c.in-Some.old before ∙ ap (renewed names f c.in-Some.old) is))
    (c.finish.ensures.stepped stay _)

pub returns-in-Some-answer-clause-falls : goal.returns-in-Some-answer-clause-falls
returns-in-Some-answer-clause-falls c = falls_ended c.finish.result _ _ c.finish.ensures.falls
