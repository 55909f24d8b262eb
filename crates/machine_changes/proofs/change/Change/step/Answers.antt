use Rattle.machine_changes.proofs.change.Change.step.Goals as goal

pub returns-in-Renewal-clause-stepped : goal.returns-in-Renewal-clause-stepped
returns-in-Renewal-clause-stepped c = λ stay. rw c.in-Renewal.is (c.step-in-Renewal.ensures.stepped stay)

pub returns-in-Assignment-clause-stepped : goal.returns-in-Assignment-clause-stepped
returns-in-Assignment-clause-stepped c = λ stay. rw c.in-Assignment.is (c.step-in-Assignment.ensures.stepped stay)
