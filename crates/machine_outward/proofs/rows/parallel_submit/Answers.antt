use Rattle.std.proofs.Common.{subst}
use Rattle.semantics.specs.declared.builtin.Builtin.{Builtin}
use Rattle.semantics.specs.Sections.{outside_only}
use Rattle.machine_outward.specs.Placing.{names_at, Opens}
use Rattle.machine_outward.proofs.rows.parallel_submit.Goals as goal

pub returns : goal.returns
returns c =
    subst (λ b. Opens c.args.place.now (λ stay. outside_only (names_at c.args.place.now) Builtin.ParallelSubmit b stay c.args.form.now.items.now) c.args.used.now c.outside_only.result c.outside_only.new.used) c.is_submission-fits.ensures (c.outside_only.ensures Builtin.ParallelSubmit c.requires)
