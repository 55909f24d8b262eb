use Rattle.builtin_names.specs.Named.{names_in}
use Rattle.machine_changes.proofs.Forms.{form_rows}
use Rattle.machine_changes.proofs.Going.{starts_as}
use Rattle.machine_changes.proofs.assignment.of_form.Goals as goal

pub returns : goal.returns
returns c = starts_as c.of_sides.result (λ stay. form_rows (names_in c.args.names.now) c.args.form stay c.args.items.now) c.of_sides.ensures
