use Rattle.std.proofs.Common.{◌∙◌, ap, sym}
use Rattle.builtin_names.specs.Named.{names_in}
use Rattle.machine_changes.specs.Assigning.{reached}
use Rattle.machine_changes.proofs.Going.{goes_on, same_program}
use Rattle.machine_changes.proofs.Larger.{begun_alike}
use Rattle.machine_changes.proofs.assignment.Assignment.reach_large.Goals as goal

pub returns-in-Assign-clause-stepped : goal.returns-in-Assign-clause-stepped
returns-in-Assign-clause-stepped c =
    let table = c.args.scene.now.names.now in
    λ l r stay.
    goes_on _
    (same_program
    (ap (λ g. reached (names_in table) g l) c.in-Assign.is
    ∙ begun_alike table c.rows_are_names.ensures _ c.args.list l _ r
    ∙ sym (ap (λ g. reached (names_in table) g c.args.list) c.in-Assign.is)))
    (c.reach.ensures.stepped stay)

pub returns-in-Unset-clause-stepped : goal.returns-in-Unset-clause-stepped
returns-in-Unset-clause-stepped c =
    λ l r stay.
    goes_on _ (same_program (ap (λ g. reached (names_in c.args.scene.now.names.now) g l) c.in-Unset.is)) (rw c.done_with.ensures.moves (c.unset_large.ensures l r stay _))
