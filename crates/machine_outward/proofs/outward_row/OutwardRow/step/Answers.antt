use Rattle.std.proofs.Common.{ap}
use Rattle.builtin_names.specs.Named.{names_in}
use Rattle.machine_outward.specs.OutwardLeft.{left}
use Rattle.machine_outward.proofs.Moving.{stepped_as}
use Rattle.machine_outward.proofs.outward_row.OutwardRow.step.Goals as goal

pub returns-in-Success-clause-stepped : goal.returns-in-Success-clause-stepped
returns-in-Success-clause-stepped c = λ stay.
    stepped_as (ap (λ r. left (names_in c.args.scene.now.names.now) r stay c.args.answer) c.in-Success.is) (c.step-in-Success.ensures.stepped stay c.args.defs.now c.args.used.now)
