use Rattle.std.proofs.Common.{◌∙◌, ap, sym}
use Rattle.builtin_names.specs.Named.{names_in}
use Rattle.machine_changes.specs.Assigning.{begun, reached}
use Rattle.machine_changes.proofs.Going.{goes_on, same_program}
use Rattle.machine_changes.proofs.assignment.Assignment.reach.Goals as goal

pub returns-in_ok-right-in-Assign-clause-stepped : goal.returns-in_ok-right-in-Assign-clause-stepped
returns-in_ok-right-in-Assign-clause-stepped c =
    let names = names_in c.args.scene.now.names.now in
    λ stay.
    goes_on _
    (same_program
    (ap (λ g. reached names g c.args.left) c.in-Assign.is ∙ ap (λ r. begun names c.in-Assign.form r c.args.left) (sym c.in_ok-right-in-Assign.ensures)))
    (c.assign.ensures.stepped stay)
