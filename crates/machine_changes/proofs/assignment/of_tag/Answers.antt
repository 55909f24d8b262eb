use Rattle.builtin_names.specs.Named.{names_in}
use Rattle.machine_changes.proofs.Forms.{tag_rows}
use Rattle.machine_changes.proofs.Going.{starts_as}
use Rattle.machine_changes.proofs.assignment.of_tag.Goals as goal

pub returns : goal.returns
returns c = starts_as c.of_tagged.result (λ stay. tag_rows (names_in c.args.names.now) c.args.delayed stay c.args.items.now) c.of_tagged.ensures
