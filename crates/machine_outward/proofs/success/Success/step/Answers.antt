use Rattle.std.proofs.Common.{◌∙◌, sym, ap}
use Rattle.builtin_names.specs.Named.{names_in}
use Rattle.machine_outward.specs.OutwardLeft.{left_success}
use Rattle.machine_outward.proofs.Moving.{failed_goes, stepped_as}
use Rattle.machine_outward.proofs.success.Success.step.Goals as goal

pub returns-in-None-clause-stepped : goal.returns-in-None-clause-stepped
returns-in-None-clause-stepped c = λ stay d used.
    stepped_as (ap (left_success (names_in c.args.scene.now.names.now) c.args.self.now) c.in-None.is) (c.next.ensures.stepped stay d used)

pub returns-then-is_name-clause-stepped : goal.returns-then-is_name-clause-stepped
returns-then-is_name-clause-stepped c = λ stay d used.
    stepped_as (failed_goes (names_in c.args.scene.now.names.now) c.args.self.now c.in-Some.value c.args.answer c.in-Some.is (sym c.is_name.ensures ∙ c.if-is_name.true)) (c.next-then-is_name.ensures.stepped stay d used)
