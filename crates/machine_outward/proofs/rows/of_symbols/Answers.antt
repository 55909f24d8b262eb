use Rattle.std.proofs.Common.{subst}
use Rattle.semantics.specs.Sections.{outside_only}
use Rattle.machine_outward.specs.Placing.{names_at, Opens}
use Rattle.machine_outward.proofs.rows.of_symbols.Goals as goal

pub returns : goal.returns
returns c = λ row whole.
    subst (λ b. Opens c.args.place.now (λ stay. outside_only (names_at c.args.place.now) row b stay c.args.form.now.items.now) c.args.used.now c.outside_only.result c.outside_only.new.used) c.are_symbols-fits.ensures (c.outside_only.ensures row whole)
